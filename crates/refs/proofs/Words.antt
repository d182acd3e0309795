-- The two words of a reference at a place. Assumes nothing.
use mathlib.Core.Path.{◌≡◌, sym, ap, ◌∙◌}
use mathlib.Core.Option as logic
use mathlib.Core.Option.{none, some}
use Rattle.std.specs.Prelude.{Option, None, Some}
use mathlib.Core.List.{List}
use Prim.Native.Nat.{ℕ, ◌+◌, ◌-◌, ◌<◌, ◌≤◌, ◌^◌}
use native.Mathlib.Omega.{arith}
use lib.ListN.{length, get_or, drop}
use Rattle.format.specs.Parsed.{from_option}
use Rattle.format.specs.Count.{Appends, silent}
use Rattle.format.specs.Read.{drop_two}
use Rattle.format.specs.Walk.{Walks, nothing_there, value_there}
use Rattle.format.specs.declared.Done.{Done}
use Rattle.std.specs.Prelude.{None, Some}
use Rattle.words.specs.WordWalks.{AreWords}
use Rattle.types.specs.Words.{ref_of, ref_words, ref_words_at}
use Rattle.types.specs.Answers.{ref_ans, ref_some, ref_none}
use Rattle.types.specs.declared.RefType.{RefType}

module _ (w : List ℕ) (at : ℕ) (h : at + 2 ≤ length w) where
  pub ref_two : get_or w at 0 < 2 ^ 32 → get_or w (at + 1) 0 < 2 ^ 32 → (o : logic.Option RefType) → ref_of (get_or w at 0, get_or w (at + 1) 0) ≡ o
      → ref_words.parse (drop at w) ≡ from_option o (drop (at + 2) w)
  ref_two p q o e =
      ap ref_words.parse (drop_two w at h) ∙ ref_words_at (get_or w at 0) (get_or w (at + 1) 0) (drop (at + 2) w) p q
      ∙ ap (λ (o : logic.Option RefType). from_option o (drop (at + 2) w)) e

-- found is what `from_words` told of them
module _ {f : RefType → List ℕ} {w : List ℕ} {at : ℕ} {old : List ℕ} {s : Done} {new : List ℕ} (h : at < length w) (k : 2 ≤ length w - at) {found : Option RefType} (d : found ≡ ref_ans (ref_of (get_or w at 0, get_or w (at + 1) 0))) where
  pub ref_words_missing : found ≡ None → AreWords w → Walks ref_words f silent w at old s new None
  ref_words_missing e i = nothing_there (ref_two w at (omega arith) (i at).fits (i (at + 1)).fits none (ref_none (ref_of (get_or w at 0, get_or w (at + 1) 0)) (sym d ∙ e)))

  pub ref_words_there : {r : RefType} {u : Done} → found ≡ Some r → Appends (f r) old s new u → AreWords w → Walks ref_words f silent w at old s new (Some (at + 2, u))
  ref_words_there {r} e a i = value_there a (ref_two w at (omega arith) (i at).fits (i (at + 1)).fits (some r) (ref_some (ref_of (get_or w at 0, get_or w (at + 1) 0)) r (sym d ∙ e))) (omega arith)
