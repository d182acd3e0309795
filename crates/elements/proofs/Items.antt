-- An item at a place of bytes: its flag, and its body behind it. Assumes nothing.
use mathlib.Core.Path.{◌≡◌, refl, sym, ap, ◌∙◌}
use mathlib.Core.Bool.{Bool, true, false}
use mathlib.Core.List.{List, [], ◌∷◌}
use Prim.Native.Nat.{ℕ, ◌+◌, ◌<◌, ◌≤◌}
use native.Mathlib.Omega.{arith}
use lib.Dec.{leb}
use lib.ListN.{length, get_or, drop}
use borrow.Author.Tests.{le-leb, lt-leb}
use Rattle.format.specs.Parsed.{got}
use Rattle.format.specs.Count.{Appends}
use Rattle.format.specs.Read.{one_read}
use Rattle.format.specs.Sequence.{dep_known}
use Rattle.format.specs.Walk.{walks_as}
use Rattle.format.specs.declared.Done.{Done}
use Rattle.format.specs.Walk.{Walk}
use Rattle.std.specs.Prelude.{None, Some}
use Rattle.parts.specs.Reading.{Reading, part_missing, part_follows}
use Rattle.modes.specs.Mode.{mode_words, place}
use Rattle.elements.specs.Members.{members}
use Rattle.elements.specs.Item.{flag_of, flag_byte, is_typed, body}
use Rattle.elements.specs.Section.{element_section, record_prints}
use Rattle.modes.specs.declared.Mode.{Mode}
use Rattle.elements.proofs.Lists.{as_members}

-- ---- a flag that is none of 0 to 6 is 7

-- ---- the body behind it

module _ {b : List ℕ} {at : ℕ} {old : List ℕ} {s : Done} {new : List ℕ} where
  module _ (h : at < length b) where
    -- e: expressions are listed; the mode is appended already
    module _ (m : Mode) {cur : List ℕ} {u : Done} (a : Appends (mode_words.print m) old s cur u) where
      body_reads : (e : Bool) → flag_of m e ≡ get_or b at 0 → {r : Walk} → Reading (body (m, e)) b (at + 1) cur u new r → Reading element_section b at old s new r
      body_reads e f x =
          let p : flag_byte.parse (drop at b) ≡ got (m, e) (drop (at + 1) b) = one_read flag_byte (m, e) (get_or b at 0) tt (ap (λ (n : ℕ). n ∷ []) f) b at h refl in
          record {
            reads = λ k. walks_as (λ y. ((m, e), y)) (dep_known flag_byte (λ f. (body f).bytes) (m, e) (drop at b) (drop (at + 1) b) p)
                (λ y. sym (record_prints ((m, e), (body (m, e)).locate (at + 1) y))) (λ y. refl) a (x.reads (omega arith));
          }

      module _ {f : ℕ} (is : get_or b at 0 ≡ f) (g : flag_of m (leb 4 f) ≡ f) where
        -- the place is not read
        pub place_not_read : {r : Walk} → Reading (place m) b (at + 1) cur u new r → r ≡ None → Reading element_section b at old s new None
        place_not_read x q = body_reads (leb 4 f) (g ∙ sym is) (part_missing (place m) (members (leb 4 f) (is_typed m)) x q)

        -- or it is, and the members behind it
        module _ {mid : List ℕ} {r : Walk} (x : Reading (place m) b (at + 1) cur u mid r) {p : ℕ} {v : Done} (q : r ≡ Some (p, v)) {typed : Bool} (i : typed ≡ is_typed m) {r' : Walk} where
          follow : (e : Bool) → leb 4 f ≡ e → Reading (members e typed) b p mid v new r' → Reading element_section b at old s new r'
          follow e l y = body_reads e (ap (flag_of m) (sym l) ∙ g ∙ sym is) (part_follows (place m) (members e (is_typed m)) x q (as_members e (sym i) y))

          pub functions_follow : f < 4 → Reading (members false typed) b p mid v new r' → Reading element_section b at old s new r'
          functions_follow l y = follow false (lt-leb 4 f l) y

          pub expressions_follow : 4 ≤ f → Reading (members true typed) b p mid v new r' → Reading element_section b at old s new r'
          expressions_follow l y = follow true (le-leb 4 f l) y
