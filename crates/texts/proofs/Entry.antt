-- What a walk over a record's words tells about the answer, for an entry that measures first and writes only what it accepts. Assumes nothing.
use Rattle.std.specs.Prelude.{◌≡◌, refl, ◌⊎◌, List, [], ◌∷◌, ℕ, ◌≤◌, ◌<◌, min, ltb, length, drop}
use Rattle.std.proofs.Common.{sym, ap, subst, ◌∙◌, ⊎_elim, append-nil, arith, lt-ltb, le-ltb}
use Rattle.std.proofs.Math.Option.{some}
use Rattle.std.proofs.Math.Seq.{drop-length}
use Rattle.format.specs.Parsed.{Parsed, got, got_rest, fail_got}
use Rattle.format.specs.Read.{same_place}
use Rattle.format.specs.Write.{over}
use Rattle.format.specs.Count.{no_refusal, counted, count_in, low_in, has_start, has_count, has_lowest}
use Rattle.format.specs.Walk.{Walks, Walked, Gone, not_found, gone}
use Rattle.format.specs.declared.Done.{Done}
use Rattle.format.specs.Walk.{Walk}
use Rattle.std.specs.Prelude.{None, Some}
use Rattle.texts.specs.Text.{lowest_of}
use Rattle.texts.specs.Judge.{Records, words_most, text_most, item_most, record_in, item_in, why, two_exactly, whole_back, record_inv, record_back, no_record_exactly, fine, fine_accepted, drawn_first, drawn_none}

module _ {A : Type 0} (R : Records A) (w t : List ℕ) where
  -- the walk that an add makes over its words
  abbrev pub AddWalks : List ℕ → Done → List ℕ → Walk → Type 0
  AddWalks old s new r = Walks R.words (R.item t) (λ a. lowest_of t (R.texts a)) w 0 old s new r

  -- ---- 2: the words are more than 4,096, no record, or some are left over

  pub many_words : words_most < length w → why R w t ≡ 2
  many_words h = (two_exactly R w t).1 (tt, (no_record_exactly R w).1 (λ a ok e k. omega arith))

  none_is : ((a : A) → R.words.parse w ≡ got a [] → ⊥) → why R w t ≡ 2
  none_is n = (two_exactly R w t).1 (tt, (no_record_exactly R w).1 (λ a ok e k. n a (whole_back R w a ok e)))

  module _ (old : List ℕ) (s : Done) (new : List ℕ) (r : Walk) (h : AddWalks old s new r) where
    pub no_record : r ≡ None → why R w t ≡ 2
    no_record e =
        let f = not_found h e in
        none_is (λ a. fail_got (R.words.parse w) a [] f)

    -- what a walk that found a value says of it
    walk_gone : {p : ℕ} {u : Done} → r ≡ Some (p, u) → Gone R.words (R.item t) (λ a. lowest_of t (R.texts a)) w 0 old s new p u
    walk_gone e = gone R.words h e

    pub words_left : {p : ℕ} {u : Done} → r ≡ Some (p, u) → (p ≡ length w → ⊥) → why R w t ≡ 2
    words_left e n = let g = walk_gone e in none_is (λ a q. n (same_place w g.place (omega arith) (got_rest (sym g.read ∙ q) ∙ sym (drop-length w))))

  -- ---- else they are a record's, and a walk from nothing on counts its item and finds the lowest refusal that its texts draw, if it is below the one that
  -- the walk starts with

  pub record Measured (from : ℕ) (u : Done) : Type 0 where
    pub value : A
    pub is : record_in R w ≡ some value
    pub count : count_in u ≡ counted (length (R.item t value))
    pub lowest : low_in u ≡ min from (lowest_of t (R.texts value))

  pub measured : (old : List ℕ) (s : Done) (new : List ℕ) (r : Walk) → AddWalks old s new r → {p : ℕ} {u : Done} → r ≡ Some (p, u) → p ≡ length w
      → length w ≤ words_most → {from : ℕ} → s.v ≡ from → from ≤ no_refusal → Measured from u
  measured old s new r h {p} {u} e all few {from} start low =
      let g = walk_gone old s new r h e in
      let end : drop p w ≡ [] = rw all (drop-length w) in
      let q : R.words.parse w ≡ got g.value [] = g.read ∙ ap (λ (l : List ℕ). got g.value l) end in
      let o = R.words.only w g.value [] q in
      let k = g.adds.more [] from old (has_start old s from start low) in
      record {
        value = g.value;
        is = record_back R w g.value o.0 (o.1 ∙ append-nil (R.words.print g.value)) few;
        count = has_count k;
        lowest = has_lowest k;
      }

  -- what its texts draw is below it, or nothing
  abbrev pub Below : ℕ → A → Type 0
  Below from a = (lowest_of t (R.texts a) < from) ⊎ (lowest_of t (R.texts a) ≡ no_refusal)

  module _ {from : ℕ} {u : Done} (m : Measured from u) where
    pub long_text : text_most < length t → why R w t ≡ 3
    long_text h = rw (m.is, lt-ltb text_most (length t) h)

    module _ (few : from ≤ no_refusal) (below : Below from m.value) (short : length t ≤ text_most) where
      pub drawn_low : low_in u < from → low_in u ≡ lowest_of t (R.texts m.value)
      drawn_low h = ⊎_elim (λ (k : lowest_of t (R.texts m.value) < from). omega (arith, m.lowest)) (λ (k : lowest_of t (R.texts m.value) ≡ no_refusal). absurd (omega (arith, m.lowest))) below

      pub refused_text : low_in u < from → why R w t ≡ low_in u
      refused_text h =
          let l = R.texts m.value in
          let e = drawn_low h in
          rw (m.is, le-ltb text_most (length t) short, e) (drawn_first t l ((6, ltb item_most (length (R.item t m.value))) ∷ []) (omega (arith, e)))

      module _ (texts : from ≤ low_in u) where
        none_low : lowest_of t (R.texts m.value) ≡ no_refusal
        none_low = ⊎_elim (λ (k : lowest_of t (R.texts m.value) < from). absurd (omega (arith, m.lowest))) (λ (k : lowest_of t (R.texts m.value) ≡ no_refusal). k) below

        pub large_item : item_most < count_in u → why R w t ≡ 6
        large_item h =
            let n = length (R.item t m.value) in
            let k : item_most < n = omega (arith, m.count) in
            rw (m.is, le-ltb text_most (length t) short) (drawn_none t (R.texts m.value) ((6, ltb item_most n) ∷ []) none_low ∙ rw (lt-ltb item_most n k))

        pub accepted : count_in u ≤ item_most → (why R w t ≡ 0) × (length (item_in R w t) ≡ count_in u)
        accepted h =
            let k : length (R.item t m.value) ≡ count_in u = omega (arith, m.count) in
            (fine_accepted R w t (record { value = m.value; is = m.is; short = short; texts = none_low; fits = omega arith }), rw m.is k)

  -- ---- a second walk over words that were accepted leaves the item, whatever refusal it starts with

  pub second_walk : (old : List ℕ) (s : Done) (new : List ℕ) (r : Walk) → AddWalks old s new r → s.v ≤ no_refusal → why R w t ≡ 0
      → length (item_in R w t) ≤ length old → new ≡ over (item_in R w t) old
  second_walk old s new r h l e room =
      let f = fine R w t e in
      let (ok, p, _) = record_inv R w f.value f.is in
      let k : Walked (R.item t) (λ a. lowest_of t (R.texts a)) w (got f.value []) old s new r =
      subst (λ (m : Parsed A). Walked (R.item t) (λ a. lowest_of t (R.texts a)) w m old s new r) (whole_back R w f.value ok p) h.walked in
      rw f.is ((k.2.more [] s.v old (has_start old s s.v refl l)).bytes f.fits (rw f.is at room))
