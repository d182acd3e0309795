-- A list as a part (document 01, Records: a count word, then its members; Items to bytes: the count, then them). Assumes nothing.
use Rattle.std.specs.Prelude.{◌≡◌, refl, List, [], ◌∷◌, ◌++◌, ℕ, suc, ◌+◌, ◌≤◌, length}
use Rattle.std.proofs.Common.{sym, ap, subst, length-append}
use Rattle.format.specs.Lists.{All, prints, many}
use Rattle.leb128.proofs.Formats.{u32}
use Rattle.texts.specs.Allowed.{Allowed}
use Rattle.texts.specs.Judge.{text_most}
use Rattle.texts.specs.Section.{Section}
use Rattle.texts.specs.Text.{Kind}
use Rattle.words.specs.Words.{word}
use Rattle.texts.specs.declared.Span.{Span}
use Rattle.parts.specs.Both.{stood, first_stood, second_stood, at_first, at_second, all_both, all_each}

-- each member as something else
abbrev pub each : {A B : Type 0} → (A → B) → List A → List B
each f [] = []
each f (a ∷ xs) = f a ∷ each f xs

pub length_each : {A B : Type 0} (f : A → B) (xs : List A) → length (each f xs) ≡ length xs
length_each f [] = refl
length_each f (a ∷ xs) = rw (length_each f xs)

-- which changes nothing of the list, where it changes none
pub each_same : {A : Type 0} (f : A → A) → ((a : A) → f a ≡ a) → (xs : List A) → each f xs ≡ xs
each_same f same [] = refl
each_same f same (a ∷ xs) = rw (same a, each_same f same xs)

module _ {A B : Type 0} (S : Section A B) where
  -- all texts, in their order
  abbrev pub texts_of : List A → List (Kind × Span)
  texts_of [] = []
  texts_of (a ∷ xs) = S.texts a ++ texts_of xs

  -- members that begin at n, one behind the other
  abbrev pub locates : ℕ → List B → List A
  locates n [] = []
  locates n (x ∷ xs) = S.locate n x ∷ locates (n + length (S.bytes.print x)) xs

  pub length_locates : (n : ℕ) (xs : List B) → length (locates n xs) ≡ length xs
  length_locates n [] = refl
  length_locates n (x ∷ xs) = rw (length_locates (n + length (S.bytes.print x)) xs)

  -- what is the same wherever it stands
  pub locates_same : (of : B → A) → ((n : ℕ) (x : B) → S.locate n x ≡ of x) → (n : ℕ) (xs : List B) → locates n xs ≡ each of xs
  locates_same of same n [] = refl
  locates_same of same n (x ∷ xs) = rw (same n x, locates_same of same (n + length (S.bytes.print x)) xs)

  abbrev written : List B → List ℕ
  written xs = prints S.bytes.print xs

  pub all_located : (q r : List ℕ) (xs : List B) → All S.bytes.Ok xs → each (S.resolve (q ++ (written xs ++ r))) (locates (length q) xs) ≡ xs
  all_located q r [] ok = refl
  all_located q r (x ∷ xs) ok =
      let p = S.bytes.print x in
      let a = at_first q p (written xs) r (λ (s : List ℕ). S.resolve s (S.locate (length q) x) ≡ x) (S.located q (written xs ++ r) x ok.0) in
      let b = at_second q p (written xs) r (λ (s : List ℕ) (n : ℕ). each (S.resolve s) (locates n xs) ≡ xs) (all_located (q ++ p) r xs ok.1) in
      λ i. a i ∷ b i

  pub all_ok : (q r : List ℕ) (xs : List B) → All S.bytes.Ok xs → length (q ++ (written xs ++ r)) ≤ text_most → All S.words.Ok (locates (length q) xs)
  all_ok q r [] ok h = tt
  all_ok q r (x ∷ xs) ok h =
      let p = S.bytes.print x in (
        S.locate_ok q (written xs ++ r) x ok.0 (subst (λ (s : List ℕ). length s ≤ text_most) (sym (first_stood q p (written xs) r)) h),
        subst (λ (n : ℕ). All S.words.Ok (locates n xs)) (length-append q p)
            (all_ok (q ++ p) r xs ok.1 (subst (λ (s : List ℕ). length s ≤ text_most) (sym (second_stood q p (written xs) r)) h)),
      )

  pub all_texts : (q r : List ℕ) (xs : List B) → All S.bytes.Ok xs → All (Allowed (q ++ (written xs ++ r))) (texts_of (locates (length q) xs))
  all_texts q r [] ok = tt
  all_texts q r (x ∷ xs) ok =
      let p = S.bytes.print x in
      all_both (Allowed (stood q p (written xs) r)) (S.texts (S.locate (length q) x)) (texts_of (locates (length q + length p) xs))
      (at_first q p (written xs) r (λ (s : List ℕ). All (Allowed s) (S.texts (S.locate (length q) x))) (S.locate_texts q (written xs ++ r) x ok.0))
      (at_second q p (written xs) r (λ (s : List ℕ) (n : ℕ). All (Allowed s) (texts_of (locates n xs))) (all_texts (q ++ p) r xs ok.1))

  pub all_resolve : (t : List ℕ) (xs : List A) → All S.words.Ok xs → All (Allowed t) (texts_of xs) → All S.bytes.Ok (each (S.resolve t) xs)
  all_resolve t [] ok h = tt
  all_resolve t (a ∷ xs) ok h =
      let (k, l) = all_each (Allowed t) (S.texts a) (texts_of xs) h in
      (S.resolve_ok t a ok.0 k, all_resolve t xs ok.1 l)

  pub all_words : (t : List ℕ) (xs : List A) (n : ℕ) → length (prints S.words.print (locates n (each (S.resolve t) xs))) ≡ length (prints S.words.print xs)
  all_words t [] n = refl
  all_words t (a ∷ xs) n = simp (length-append, S.same_words t a n, all_words t xs (n + length (S.bytes.print (S.resolve t a))))

  -- the members stand behind the count
  abbrev count_long : List B → ℕ
  count_long xs = length (u32.print (length xs))

  abbrev pub listed : Section (List A) (List B)
  listed =
      record {
        words = many word S.words;
        texts = texts_of;
        bytes = many u32 S.bytes;
        resolve = λ t xs. each (S.resolve t) xs;
        locate = λ n xs. locates (n + count_long xs) xs;
        located =
            λ q r xs ok. (
            let c = u32.print (length xs) in
            at_second q c (written xs) r (λ (s : List ℕ) (n : ℕ). each (S.resolve s) (locates n xs) ≡ xs) (all_located (q ++ c) r xs ok.1)
            );
        locate_ok =
            λ q r xs ok h. (
            let c = u32.print (length xs) in (
              rw (length_locates (length q + length c) xs) ok.0,
              subst (λ (n : ℕ). All S.words.Ok (locates n xs)) (length-append q c)
                  (all_ok (q ++ c) r xs ok.1 (subst (λ (s : List ℕ). length s ≤ text_most) (sym (second_stood q c (written xs) r)) h)),
            )
            );
        locate_texts =
            λ q r xs ok. (
            let c = u32.print (length xs) in
            at_second q c (written xs) r (λ (s : List ℕ) (n : ℕ). All (Allowed s) (texts_of (locates n xs))) (all_texts (q ++ c) r xs ok.1)
            );
        resolve_ok = λ t xs ok h. (rw (length_each (S.resolve t) xs) ok.0, all_resolve t xs ok.1 h);
        same_words = λ t xs n. ap suc (all_words t xs (n + count_long (each (S.resolve t) xs)));
      }
