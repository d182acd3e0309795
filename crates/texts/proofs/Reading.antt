-- Reading and adding, for every section (document 01, Answers by number): reading what was added gives the record back but for where its spans lie, adding
-- what was read writes the same bytes, and nothing is read exactly where no item begins. Assumes nothing.
use Rattle.std.specs.Prelude.{◌≡◌, ◌↔◌, List, [], ◌++◌, ℕ, ◌+◌, ◌≤◌, length}
use Rattle.std.proofs.Common.{sym, ap, ◌∙◌, arith, length-append, le-leb, leb-true}
use Rattle.std.proofs.Math.Option.{some}
use Rattle.format.specs.Parsed.{fail, got, fail_got}
use Rattle.format.specs.Format.{refuses}
use Rattle.format.specs.Lists.{All}
use Rattle.format.specs.Count.{no_refusal}
use Rattle.texts.specs.Text.{lowest_of}
use Rattle.texts.specs.Allowed.{Allowed, all_allowed}
use Rattle.texts.specs.Judge.{Records, words_most, text_most, item_most, record_in, item_in, why, record_inv, record_back, fine, fine_accepted}
use Rattle.texts.specs.Section.{Section, read_words, readable, Among}

-- R: the records that an add takes, this section's among them
module _ {A B C : Type 0} (S : Section A B) (R : Records C) (among : Among S R) where
  module _ (w t : List ℕ) (a : A) (p : record_in R w ≡ some (among.into a)) where
    -- its item is what the format prints
    pub item-is : item_in R w t ≡ S.bytes.print (S.resolve t a)
    item-is = rw p (among.item t a)

    module _ (y : why R w t ≡ 0) where
      -- what an add writes is an item
      pub item_ok : S.bytes.Ok (S.resolve t a)
      item_ok =
          let f = fine R w t y in
          let v : f.value ≡ among.into a = cc f.is in
          let l : lowest_of t (S.texts a) ≡ no_refusal = ap (lowest_of t) (sym (among.texts a) ∙ ap R.texts (sym v)) ∙ f.texts in
          S.resolve_ok t a ((among.ok a).0 (record_inv R w (among.into a) p).0) ((all_allowed t (S.texts a)).0 l)

      few_words : length (read_words S (S.resolve t a)) ≤ words_most
      few_words = let (_, q, h) = record_inv R w (among.into a) p in omega (arith, S.same_words t a 0, ap length q ∙ ap length (among.prints a))

      -- which is read, whatever follows: the record that is read is that of the same item
      pub add_reads : (r : List ℕ) → (readable S).parse (item_in R w t ++ r) ≡ got (S.resolve t a) r
      add_reads r =
          let x = S.resolve t a in
          ap (λ (l : List ℕ). (readable S).parse (l ++ r)) item-is ∙ (readable S).back x r (item_ok, le-leb (length (read_words S x)) words_most few_words)

      -- its spans hold there what those of the record that was added hold in the text
      pub same_texts : (r : List ℕ) → S.resolve (item_in R w t ++ r) (S.locate 0 (S.resolve t a)) ≡ S.resolve t a
      same_texts r = let x = S.resolve t a in ap (λ (l : List ℕ). S.resolve (l ++ r) (S.locate 0 x)) item-is ∙ S.located [] r x item_ok

  -- adding the record that is read, with the bytes themselves as its text, writes the same bytes
  pub record ReadAdds (s : List ℕ) (x : B) : Type 0 where
    pub is : record_in R (read_words S x) ≡ some (among.into (S.locate 0 x))
    pub accepted : why R (read_words S x) s ≡ 0
    pub item : item_in R (read_words S x) s ≡ S.bytes.print x

  pub read_adds : (s : List ℕ) (x : B) (r : List ℕ) → (readable S).parse s ≡ got x r → length s ≤ text_most → ReadAdds s x
  read_adds s x r e h =
      let ((ok, f), q) = (readable S).only s x r e in
      let l : length s ≡ length (S.bytes.print x) + length r = ap length q ∙ length-append (S.bytes.print x) r in
      let w = read_words S x in
      let a = S.locate 0 x in
      let back : S.resolve s a ≡ x = rw q (S.located [] r x ok) in
      let item : R.item s (among.into a) ≡ S.bytes.print x = among.item s a ∙ ap S.bytes.print back in
      let is : record_in R w ≡ some (among.into a) =
      record_back R w (among.into a) ((among.ok a).1 (S.locate_ok [] r x ok (rw q at h))) (sym (among.prints a)) (leb-true (length w) words_most f) in
      let allowed : All (Allowed s) (S.texts a) = rw q (S.locate_texts [] r x ok) in
      let none : lowest_of s (R.texts (among.into a)) ≡ no_refusal = ap (lowest_of s) (among.texts a) ∙ (all_allowed s (S.texts a)).1 allowed in
      let fits : length (R.item s (among.into a)) ≤ item_most = rw item (omega arith) in
      record {
        is = is;
        accepted = fine_accepted R w s (record { value = among.into a; is = is; short = h; texts = none; fits = fits });
        item = rw is item;
      }

  -- nothing is read exactly where no item begins: of no record of the section that draws none of 2 to 6
  pub none_begins : (s : List ℕ) → length s ≤ text_most
      → ((readable S).parse s ≡ fail) ↔ ((w t r : List ℕ) (a : A) → record_in R w ≡ some (among.into a) → why R w t ≡ 0 → s ≡ item_in R w t ++ r → ⊥)
  none_begins s h = (there, λ n. (refuses (readable S) s).1 (back n))
    where
      there : (readable S).parse s ≡ fail → (w t r : List ℕ) (a : A) → record_in R w ≡ some (among.into a) → why R w t ≡ 0 → s ≡ item_in R w t ++ r → ⊥
      there e w t r a p y q = fail_got ((readable S).parse s) (S.resolve t a) r e (ap (readable S).parse q ∙ add_reads w t a p y r)

      back : ((w t r : List ℕ) (a : A) → record_in R w ≡ some (among.into a) → why R w t ≡ 0 → s ≡ item_in R w t ++ r → ⊥)
          → (x : B) (r : List ℕ) → (readable S).Ok x → s ≡ S.bytes.print x ++ r → ⊥
      back n x r ok q =
          let g = read_adds s x r (ap (readable S).parse q ∙ (readable S).back x r ok) h in
          n (read_words S x) s r (S.locate 0 x) g.is g.accepted (q ∙ ap (λ (l : List ℕ). l ++ r) (sym g.item))
