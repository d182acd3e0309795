-- The words before a composite type at a place: by the first of them, what they are. Assumes nothing.
use mathlib.Core.Path.{◌≡◌, refl, sym, ap, ◌∙◌}
use mathlib.Core.Bool.{true, false}
use mathlib.Core.Option.{none, some}
use mathlib.Core.List.{List, [], ◌∷◌, ◌++◌}
use Prim.Native.Nat.{ℕ, ◌+◌, ◌<◌}
use native.Mathlib.Omega.{arith}
use lib.ListN.{length, get_or, drop}
use borrow.Author.Tests.{lt-ltb}
use Rattle.format.specs.Sequence.{dep_known}
use Rattle.format.specs.Parsed.{got}
use Rattle.format.specs.Basic.{flag}
use Rattle.format.specs.Alternatives.{opt}
use Rattle.format.specs.Read.{drop_more, drop_two, one_read}
use Rattle.format.specs.Count.{Appends, silent, adds_nil, adds_seq}
use Rattle.format.specs.Leads.{mark, option}
use Rattle.format.specs.Dispatch.{Opens, opened, dep_opens}
use Rattle.format.specs.Walk.{Walks, value_there, walks_read}
use Rattle.format.specs.declared.Done.{Done}
use Rattle.format.specs.Walk.{Walk}
use Rattle.std.specs.Prelude.{Some}
use Rattle.leb128.proofs.Formats.{u32}
use Rattle.leb128.specs.Leb.{uleb}
use Rattle.words.specs.Words.{word}
use Rattle.words.proofs.Lent.{Two}
use Rattle.words.specs.WordWalks.{AreWords}
use Rattle.lists.specs.Member.{list_words, list_bytes}
use Rattle.lists.specs.declared.Member.TheVariants.{Index}
use Rattle.prefixes.specs.Prefix.{supers_words, supers_lead}

module _ (w : List ℕ) (at : ℕ) (h : at < length w) where
  -- a list that a count other than 0 begins is not empty
  not_empty : (get_or w at 0 ≡ 0 → ⊥) → (xs q : List ℕ) → (list_words Index).parse (drop at w) ≡ got xs q → xs ≡ [] → ⊥
  not_empty n xs q e z =
      let o : drop at w ≡ (list_words Index).print xs ++ q = ((list_words Index).only (drop at w) xs q e).1 in
      let p : get_or w at 0 ∷ drop (at + 1) w ≡ 0 ∷ q = sym (drop_more w at h) ∙ o ∙ ap (λ (l : List ℕ). (list_words Index).print l ++ q) z in
      n (cc p)

-- 4F before a list that is not empty
some_print : (xs : List ℕ) → (xs ≡ [] → ⊥) → 0x4F ∷ (list_bytes Index).print xs ≡ supers_lead.print (true, xs)
some_print [] n = absurd (n refl)
some_print (x ∷ xs) n = refl

open_list : Opens 0 (0x50 ∷ []) (list_words Index).parse (list_bytes Index).print silent supers_words.parse supers_lead.print silent
open_list = dep_opens flag (λ f. list_words Index) supers_lead.print false 0 (0x50 ∷ []) (list_bytes Index).print tt refl (λ xs. refl)

-- ---- the walks, by what was read and appended: v is what stands from the place on, two words at least

module _ {w : List ℕ} {at : ℕ} {v : List ℕ} (two : Two w at v) {old : List ℕ} {s : Done} where
  pub option_none : {k : ℕ} → get_or v 0 0 ≡ 0 → get_or v 1 0 ≡ 0 → Walks (opt word) (option k u32).print silent w at old s old (Some (at + 2, s))
  option_none e f =
      let e : get_or w at 0 ≡ 0 = sym two.first ∙ e in
      let f : get_or w (at + 1) 0 ≡ 0 = sym two.second ∙ f in
      value_there {a = none} (adds_nil old s) (rw (drop_two w at two.place, e, f)) two.place

  pub no_supers : get_or v 0 0 ≡ 1 → get_or v 1 0 ≡ 0 → Walks supers_words supers_lead.print silent w at old s old (Some (at + 2, s))
  no_supers e f =
      let e : get_or w at 0 ≡ 1 = sym two.first ∙ e in
      let f : get_or w (at + 1) 0 ≡ 0 = sym two.second ∙ f in
      value_there {a = (true, [])} (adds_nil old s) (rw (drop_two w at two.place, e, f)) two.place

  module _ {cur : List ℕ} {t : Done} {new : List ℕ} where
    pub option_some : {k : ℕ} {u : Done} → get_or v 0 0 ≡ 1 → Appends (k ∷ []) old s cur t → Appends (uleb (get_or v 1 0)) cur t new u → AreWords w
        → Walks (opt word) (option k u32).print silent w at old s new (Some (at + 2, u))
    option_some e a b k =
        let e : get_or w at 0 ≡ 1 = sym two.first ∙ e in
        value_there {a = some (get_or w (at + 1) 0)} (adds_seq a (rw two.second at b)) (rw (drop_two w at two.place, e, lt-ltb (get_or w (at + 1) 0) _ (k (at + 1)).fits)) two.place

    -- not final
    pub open_supers : {r : Walk} → get_or v 0 0 ≡ 0 → Appends (0x50 ∷ []) old s cur t → Walks (list_words Index) (list_bytes Index).print silent w (at + 1) cur t new r
        → Walks supers_words supers_lead.print silent w at old s new r
    open_supers e a q = let p = two.place in opened open_list (sym two.first ∙ e) (omega arith) q a

    -- final, with some supertypes
    pub final_supers : {r : Walk} → get_or v 0 0 ≡ 1 → (get_or v 1 0 ≡ 0 → ⊥) → Appends (0x4F ∷ []) old s cur t → Walks (list_words Index) (list_bytes Index).print silent w (at + 1) cur t new r
        → Walks supers_words supers_lead.print silent w at old s new r
    final_supers e n a q =
        let p = two.place in
        walks_read (λ xs. (true, xs)) (dep_known flag (λ f. list_words Index) true (drop at w) (drop (at + 1) w) (one_read flag true 1 tt refl w at (omega arith) (sym two.first ∙ e)))
        (λ xs q i. some_print xs (not_empty w (at + 1) (omega arith) (λ z. n (two.second ∙ z)) xs q i)) (λ xs. refl) a q

-- not shared: of x nothing is written
pub shared_not : {w : List ℕ} {at x : ℕ} {old : List ℕ} {s : Done} → at < length w → x ≡ get_or w at 0 → x ≡ 0 → Walks flag (mark 0x65).print silent w at old s old (Some (at + 1, s))
shared_not {w} {at} {old = old} {s} h y e = value_there {a = false} (adds_nil old s) (one_read flag false 0 tt refl w at h (sym y ∙ e)) (omega arith)
