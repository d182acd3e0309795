-- The walks over a number of 64 bits, of two words. Assumes nothing.
use mathlib.Core.Path.{◌≡◌, refl, sym, ap, ◌∙◌}
use mathlib.Core.List.{List, [], ◌∷◌}
use Prim.Native.Nat.{ℕ, ◌+◌, ◌-◌, ◌/◌, ◌^◌, ◌<◌, ◌≤◌}
use native.Mathlib.Omega.{arith}
use lib.Bits.{bit_and, and_mask}
use lib.ListN.{length, get_or, drop}
use mir.Syntax.{w32}
use mir.Val.{Fits}
use Rattle.format.specs.Count.{Appends, silent, adds_seq, adds_eq}
use Rattle.format.specs.Read.{reading, told_found}
use Rattle.format.specs.Walk.{Walks, value_there}
use Rattle.format.specs.declared.Done.{Done}
use Rattle.std.specs.Prelude.{Some}
use Rattle.leb128.proofs.Formats.{u64}
use Rattle.numbers.specs.Answers.{read_as}
use Rattle.std.specs.Prelude.{Option}
use Rattle.std.specs.Prelude.{Some}
use Rattle.words.specs.Words.{word}
use Rattle.words.specs.WordWalks.{AreWords, word_read}
use Rattle.format.specs.Repeats.{Repeats, WalksList, counted_list}
use Rattle.format.specs.Walk.{Walk}
use Rattle.words.specs.Number64.{number64}

pub low_fits : (v : ℕ) → Fits w32 (bit_and v 0xFFFFFFFF)
low_fits v = record { fits = omega (arith, and_mask v 32) }

module _ {w : List ℕ} {at : ℕ} {old : List ℕ} {s : Done} {new : List ℕ} where
  module _ {r : Option (ℕ × ℕ)} (d : read_as 0 r ≡ reading 0 w (u64.parse (drop at w))) where
    pub number64_there : {v p : ℕ} {cur : List ℕ} {t u : Done} → r ≡ Some (v, p) → Appends (bit_and v 0xFFFFFFFF ∷ []) old s cur t → Appends (v / 0x100000000 ∷ []) cur t new u
        → Walks u64 number64.print silent w at old s new (Some (p, u))
    number64_there {v} e a b =
        let g = told_found 0 w u64 at (sym (ap (read_as 0) e) ∙ d) in
        value_there {a = v} (adds_eq (ap (λ (n : ℕ). n ∷ v / 2 ^ 32 ∷ []) (and_mask v 32)) refl (adds_seq a b)) g.0 g.1

-- a list behind its count, the word x
pub counted_as : {T : Type 0} {c : ℕ → List T} {R : ℕ → List T → Done → List T → Walk → Type 0} {w : List ℕ} {at x : ℕ} {old : List T} {s : Done} {new : List T} → at < length w → x ≡ get_or w at 0
    → {cur : List T} {t : Done} {r : Walk} → x ≤ length w - at - 1 → Appends (c x) old s cur t → Repeats R x (at + 1) cur t new r → AreWords w → WalksList word c R w at old s new r
counted_as {w = w} {at} h e l a m k = counted_list {p = at + 1} (word_read w at h k ∙ rw (← e) refl) (omega arith) (omega arith) a m
