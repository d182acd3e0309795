-- The bytes before a composite type at a place: by the first of them, what they are. Assumes nothing.
use mathlib.Core.Path.{◌≡◌, refl, sym, ap, ◌∙◌}
use mathlib.Core.Bool.{true, false, cond}
use mathlib.Core.Option.{none, some}
use mathlib.Core.Logic.{inl, inr}
use mathlib.Core.List.{List, [], ◌∷◌, ◌++◌}
use Prim.Native.Nat.{ℕ, ◌+◌, ◌<◌, ◌≤◌}
use native.Mathlib.Omega.{arith}
use lib.IntN.{pos}
use lib.ListN.{length, get_or, drop, length-append}
use borrow.Author.Tests.{ne_eqb}
use Rattle.format.specs.Parsed.{Parsed, fail, got, bind, map, map_same}
use Rattle.format.specs.Leads.{LeadWalks, option, option_there, option_missing}
use Rattle.format.specs.Alternatives.{opt}
use Rattle.format.specs.Count.{Appends, silent, adds_seq}
use Rattle.format.specs.Read.{drop_more, too_few}
use Rattle.format.specs.Dispatch.{Opens, opened, opened_bare}
use Rattle.format.specs.Walk.{Walks, nothing_there, value_there, walks_as}
use Rattle.format.specs.declared.Done.{Done}
use Rattle.format.specs.Walk.{Walk}
use Rattle.std.specs.Prelude.{None, Some}
use Rattle.words.specs.Words.{word}
use Rattle.leb128.proofs.Formats.{u32}
use Rattle.format.specs.Lists.{prints}
use Rattle.leb128.specs.Leb.{uleb}
use Rattle.leb128.proofs.LebLaws.{leb_some}
use Rattle.lists.specs.Member.{list_bytes, list_words}
use Rattle.lists.specs.declared.Member.TheVariants.{Index}
use Rattle.prefixes.specs.Prefix.{is_some, some_supers, supers_lead, supers_words, prefix_of}

zero_byte : uleb 0 ≡ 0 ∷ []
unfolding Rattle.leb128.specs.Leb.leb Rattle.leb128.specs.Leb.leb_by
zero_byte = refl

some_long : (xs : List ℕ) → some_supers.Ok xs → 1 ≤ length (some_supers.print xs)
some_long xs ok = omega (arith, leb_some false (pos (length xs)), length-append (uleb (length xs)) (prints uleb xs))

module _ (w : List ℕ) (at : ℕ) (h : at < length w) where
  -- supertypes of a final type: the count is not 0
  some_read : (get_or w at 0 ≡ 0 → ⊥) → some_supers.parse (drop at w) ≡ (list_bytes Index).parse (drop at w)
  some_read n = go ((list_bytes Index).parse (drop at w)) refl
    where
      go : (m : Parsed (List ℕ)) → (list_bytes Index).parse (drop at w) ≡ m → bind m (λ xs r. cond (is_some xs) (got xs r) fail) ≡ m
      go fail e = refl
      go (got [] r) e =
          let p : get_or w at 0 ∷ drop (at + 1) w ≡ 0 ∷ r = sym (drop_more w at h) ∙ ((list_bytes Index).only (drop at w) [] r e).1 ∙ ap (λ (l : List ℕ). (l ++ []) ++ r) zero_byte in
          absurd (n (cc p))
      go (got (x ∷ xs) r) e = refl

  none_there : get_or w at 0 ≡ 0 → some_supers.parse (drop at w) ≡ fail
  none_there e =
      let p : drop at w ≡ (list_bytes Index).print [] ++ drop (at + 1) w =
      drop_more w at h ∙ ap (λ (x : ℕ). x ∷ drop (at + 1) w) e ∙ ap (λ (l : List ℕ). (l ++ []) ++ drop (at + 1) w) (sym zero_byte) in
      let q : (list_bytes Index).parse (drop at w) ≡ got [] (drop (at + 1) w) = ap (list_bytes Index).parse p ∙ (list_bytes Index).back [] (drop (at + 1) w) (omega arith, tt) in
      rw q

-- 50 and a list; 4F and a list that is not empty
open_list : Opens 0x50 (0 ∷ []) (list_bytes Index).parse (list_words Index).print silent supers_lead.parse supers_words.print silent
open_list = record { name = λ xs. (false, xs); reads = λ s. go ((list_bytes Index).parse s); writes = λ xs. refl; draws = λ xs. refl }
  where
    go : (m : Parsed (List ℕ)) → bind (map inl m) (λ b r. got (prefix_of b) r) ≡ map (λ xs. (false, xs)) m
    go fail = refl
    go (got xs r) = refl

final_list : Opens 0x4F [] some_supers.parse (λ xs. 1 ∷ (list_words Index).print xs) silent supers_lead.parse supers_words.print silent
final_list = record { name = λ xs. (true, xs); reads = λ s. go (some_supers.parse s); writes = λ xs. refl; draws = λ xs. refl }
  where
    go : (m : Parsed (List ℕ)) → bind (map inr (map inl m)) (λ b r. got (prefix_of b) r) ≡ map (λ xs. (true, xs)) m
    go fail = refl
    go (got xs r) = refl

-- ---- the walks, by what was read and appended

-- supertypes of a final type, at the end
pub some_empty : {w : List ℕ} {at : ℕ} {old : List ℕ} {s : Done} {new : List ℕ} → length w ≤ at → Walks some_supers (λ xs. 1 ∷ (list_words Index).print xs) silent w at old s new None
some_empty {w} {at} h = nothing_there (too_few some_supers 1 (omega arith) some_long w at (omega arith))

-- else x stands at the place
module _ {w : List ℕ} {at x : ℕ} (h : at < length w) (y : x ≡ get_or w at 0) {old : List ℕ} {s : Done} {new : List ℕ} where
  -- k and an index, or neither
  pub option_walk : {k : ℕ} {cur : List ℕ} {t : Done} {r : Walk} → x ≡ k → Walks u32 word.print silent w (at + 1) cur t new r → Appends (1 ∷ []) old s cur t
      → LeadWalks (option k u32) (opt word).print w at old s new r
  option_walk {k} e q a = opened (record { name = some; reads = option_there k u32; writes = λ n. refl; draws = λ n. refl }) (sym y ∙ e) h q a

  pub option_gone : (k : ℕ) {cur : List ℕ} {t u : Done} → (x ≡ k → ⊥) → Appends (0 ∷ []) old s cur t → Appends (0 ∷ []) cur t new u → LeadWalks (option k u32) (opt word).print w at old s new (Some (at, u))
  option_gone k n a b = value_there {a = none} (adds_seq a b) (rw (drop_more w at h, ← y) (option_missing k u32 x (drop (at + 1) w) n)) (omega arith)

  -- supertypes of a final type
  pub some-none : x ≡ 0 → Walks some_supers (λ xs. 1 ∷ (list_words Index).print xs) silent w at old s new None
  some-none e = nothing_there (none_there w at h (sym y ∙ e))

  pub some_walk : {cur : List ℕ} {t : Done} {r : Walk} → (x ≡ 0 → ⊥) → Appends (1 ∷ []) old s cur t → Walks (list_bytes Index) (list_words Index).print silent w at cur t new r
      → Walks some_supers (λ xs. 1 ∷ (list_words Index).print xs) silent w at old s new r
  some_walk n a q = walks_as (λ xs. xs) (some_read w at h (λ e. n (y ∙ e)) ∙ map_same ((list_bytes Index).parse (drop at w))) (λ xs. refl) (λ xs. refl) a q

  -- supertypes, by their first byte
  pub supers_open : {cur : List ℕ} {t : Done} {r : Walk} → x ≡ 0x50 → Appends (0 ∷ []) old s cur t → Walks (list_bytes Index) (list_words Index).print silent w (at + 1) cur t new r
      → LeadWalks supers_lead supers_words.print w at old s new r
  supers_open e a q = opened open_list (sym y ∙ e) h q a

  pub supers_final : {r : Walk} → x ≡ 0x4F → Walks some_supers (λ xs. 1 ∷ (list_words Index).print xs) silent w (at + 1) old s new r → LeadWalks supers_lead supers_words.print w at old s new r
  supers_final e q = opened_bare final_list (sym y ∙ e) h q

  pub no_prefix : {cur : List ℕ} {t u : Done} → (x ≡ 0x50 → ⊥) → (x ≡ 0x4F → ⊥) → Appends (1 ∷ []) old s cur t → Appends (0 ∷ []) cur t new u
      → LeadWalks supers_lead supers_words.print w at old s new (Some (at, u))
  no_prefix n m a b = value_there {a = (true, [])} (adds_seq a b) (rw (drop_more w at h, ← y, ne_eqb x 0x50 n, ne_eqb x 0x4F m)) (omega arith)
