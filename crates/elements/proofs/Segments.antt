-- A segment's words at a place: what is looked at before the place is walked is what stands behind it. Assumes nothing.
use mathlib.Core.Path.{◌≡◌, refl, sym, ap, subst, ◌∙◌}
use mathlib.Core.Bool.{Bool, true, false}
use mathlib.Core.List.{List, ◌++◌}
use Prim.Native.Nat.{ℕ, ◌+◌, min}
use native.Mathlib.Omega.{arith}
use lib.Dec.{eqb}
use lib.ListN.{length, get_or, drop}
use lib.Seq.{get_or-drop}
use Rattle.std.specs.Prelude.{slice_range}
use Rattle.format.specs.Parsed.{got}
use Rattle.format.specs.Format.{Format}
use Rattle.format.specs.Basic.{bit, eqb_bit, flag}
use Rattle.format.specs.Combine.{pair}
use Rattle.format.specs.Count.{Appends, no_refusal}
use Rattle.format.specs.Sequence.{Joins, leaves, pair_plain, dep_known, first_missing, second_follows}
use Rattle.format.specs.Walk.{Walks, walks_read}
use Rattle.format.specs.declared.Done.{Done}
use Rattle.format.specs.Walk.{Walk}
use Rattle.std.specs.Prelude.{None, Some}
use Rattle.texts.specs.declared.Span.{Span}
use Rattle.parts.specs.Writing.{Writing, item_of, low_of, lowest_behind}
use Rattle.parts.proofs.Rest.{at_rest}
use Rattle.modes.specs.Mode.{mode_words, mode_read, PlaceOf, place}
use Rattle.elements.specs.Segment.{ElementsOf, Elements, elements_words_of, elements_words}
use Rattle.elements.specs.Written.{is_other, head_of, is_said, elements_of, elements_low, head_word, item_written, low_written}
use Rattle.elements.specs.Section.{element_section}
use Rattle.modes.specs.declared.Mode.{Mode}
use Rattle.std.specs.Prelude.{Option, None, Some}
use Rattle.modes.specs.declared.Mode.TheVariants.{Active, Passive, ActiveTable, Declared}
use Rattle.modes.proofs.Modes.{mode_found}

-- ---- the place, and the elements

abbrev pub rest_words : (m : Mode) → Format (PlaceOf m Span × Elements Span)
rest_words m = pair (place m).words elements_words

module _ (t : List ℕ) (m : Mode) (said : Bool) where
  abbrev pub rest_of : PlaceOf m Span × Elements Span → List ℕ
  rest_of q = item_of (place m) t q.0 ++ elements_of said t q.1

  abbrev pub rest_low : PlaceOf m Span × Elements Span → ℕ
  rest_low q = min (low_of (place m) t q.0) (elements_low t q.1)

  rest_joins : Joins (place m).words.parse (item_of (place m) t) (low_of (place m) t) elements_words.parse (elements_of said t) (elements_low t) (rest_words m).parse rest_of rest_low
  rest_joins =
      record {
        ends = leaves (place m).words;
        join = λ p x. (p, x);
        reads = pair_plain (place m).words elements_words;
        writes = λ p x. refl;
        draws = λ p x. refl;
      }

-- the kind, and word h
head_at : (e : Bool) (y : ElementsOf e Span) (z : List ℕ) → get_or ((flag.print e ++ (elements_words_of e).print y) ++ z) 1 0 ≡ head_word e y
head_at false y z = refl
head_at true y z = refl

looked : (m : Mode) (p : PlaceOf m Span) (e : Bool) (y : ElementsOf e Span) (z : List ℕ)
    → (get_or ((rest_words m).print (p, (e, y)) ++ z) 3 0 ≡ bit e) × (get_or ((rest_words m).print (p, (e, y)) ++ z) 4 0 ≡ head_word e y)
looked Active p e y z = (refl, head_at e y z)
looked Passive p e y z = (refl, head_at e y z)
looked ActiveTable p e y z = (refl, head_at e y z)
looked Declared p e y z = (refl, head_at e y z)

-- ---- behind the mode, when the flag was appended by what was looked at

-- v is the words from the place on
module _ (t w : List ℕ) (at : ℕ) {v : List ℕ} (from : v ≡ slice_range w at (length w)) (m : Mode) (is : mode_words.parse (drop at w) ≡ got m (drop (at + 2) w)) where
  abbrev pub kind : Bool
  kind = eqb (get_or v 5 0) 1

  abbrev pub other : Bool
  other = is_other m kind (get_or v 6 0)

  module _ (p : PlaceOf m Span) (e : Bool) (y : ElementsOf e Span) (z : List ℕ) (r : (rest_words m).parse (drop (at + 2) w) ≡ got (p, (e, y)) z) where
    behind : (i j : ℕ) → 2 + i ≡ j → get_or v j 0 ≡ get_or ((rest_words m).print (p, (e, y)) ++ z) i 0
    behind i j k =
        at_rest w at from j ∙ ap (λ (n : ℕ). get_or w n 0) (omega (arith, k)) ∙ sym (get_or-drop (at + 2) w i 0)
        ∙ ap (λ (l : List ℕ). get_or l i 0) ((rest_words m).only (drop (at + 2) w) (p, (e, y)) z r).1

    kind_is : kind ≡ e
    kind_is = ap (λ (n : ℕ). eqb n 1) (behind 3 5 refl ∙ (looked m p e y z).0) ∙ eqb_bit e

    other_is : other ≡ is_other m e (head_word e y)
    other_is =
        ap (λ (k : Bool). is_other m k (get_or v 6 0)) kind_is
        ∙ ap (is_other m e) (behind 4 6 refl ∙ (looked m p e y z).1)

    item-is : head_of other m kind ++ rest_of t m (is_said other m) (p, (e, y)) ≡ item_of element_section t (m, (p, (e, y)))
    item-is =
        ap (λ (k : Bool). head_of other m k ++ rest_of t m (is_said other m) (p, (e, y))) kind_is
        ∙ ap (λ (o : Bool). head_of o m e ++ rest_of t m (is_said o m) (p, (e, y))) other_is
        ∙ item_written t m p e y

  low-is : (q : PlaceOf m Span × Elements Span) → min no_refusal (rest_low t m (is_said other m) q) ≡ low_of element_section t (m, q)
  low-is q = ap (min no_refusal) (low_written t m q.0 q.1.0 q.1.1) ∙ lowest_behind t (element_section.texts (m, q))

  segment_walks : (o said : Bool) → o ≡ other → said ≡ is_said o m → {old : List ℕ} {s : Done} {cur : List ℕ} {u : Done} {new : List ℕ} {r : Walk} → Appends (head_of o m kind) old s cur u
      → Walks (rest_words m) (rest_of t m said) (rest_low t m said) w (at + 2) cur u new r → Writing element_section t w at old s new r
  segment_walks o said oe se {old} {s} {cur} {u} {new} {r} a x =
      let si : said ≡ is_said other m = se ∙ ap (λ (k : Bool). is_said k m) oe in
      record {
        writes = walks_read (λ q. (m, q)) (dep_known mode_words rest_words m (drop at w) (drop (at + 2) w) is) (λ q z e. item-is q.0 q.1.0 q.1.1 z e) low-is
            (subst (λ (k : Bool). Appends (head_of k m kind) old s cur u) oe a) (subst (λ (k : Bool). Walks (rest_words m) (rest_of t m k) (rest_low t m k) w (at + 2) cur u new r) si x);
      }

-- ---- what the code has read

module _ {t w : List ℕ} {at : ℕ} {old : List ℕ} {s : Done} {new : List ℕ} {found : Option Mode} (d : found ≡ mode_read (mode_words.parse (drop at w))) where
  module _ {m : Mode} (e : found ≡ Some m) {v : List ℕ} (from : v ≡ slice_range w at (length w)) where
    module _ {o : Bool} (oe : o ≡ is_other m (eqb (get_or v 5 0) 1) (get_or v 6 0)) {cur : List ℕ} {u : Done} (a : Appends (head_of o m (eqb (get_or v 5 0) 1)) old s cur u) where
      pub place_missing : {r : Walk} → Writing (place m) t w (at + 2) cur u new r → r ≡ None → Writing element_section t w at old s new None
      place_missing x q =
          segment_walks t w at from m (mode_found w at d e) o (is_said o m) oe refl a (first_missing (rest_joins t m (is_said o m)) x.writes q)

      pub elements_follow : {mid : List ℕ} {r : Walk} {p : ℕ} {v : Done} {said : Bool} {r' : Walk} → Writing (place m) t w (at + 2) cur u mid r → r ≡ Some (p, v) → said ≡ is_said o m
          → Walks elements_words (elements_of said t) (elements_low t) w p mid v new r' → Writing element_section t w at old s new r'
      elements_follow {said = said} x q i y =
          segment_walks t w at from m (mode_found w at d e) o said oe i a (second_follows (rest_joins t m said) x.writes q y)
