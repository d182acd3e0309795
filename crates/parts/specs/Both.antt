-- Parts out of parts: one behind the other, and behind a fixed byte. Assumes nothing.
use Rattle.std.specs.Prelude.{◌≡◌, List, [], ◌∷◌, ◌++◌, ℕ, ◌+◌, ◌≤◌, length}
use Rattle.std.proofs.Common.{sym, ap, subst, append_assoc, length-append}
use Rattle.format.specs.Basic.{tag}
use Rattle.format.specs.Combine.{pair}
use Rattle.format.specs.Lists.{All}
use Rattle.texts.specs.Allowed.{Allowed}
use Rattle.texts.specs.Judge.{text_most}
use Rattle.texts.specs.Section.{Section}
use Rattle.texts.specs.Text.{Kind}
use Rattle.texts.specs.declared.Span.{Span}

-- what holds of all members of two lists holds of both together, and the other way round
pub all_both : {A : Type 0} (P : A → Type 0) (xs ys : List A) → All P xs → All P ys → All P (xs ++ ys)
all_both P [] ys h k = k
all_both P (x ∷ xs) ys h k = (h.0, all_both P xs ys h.1 k)

pub all_each : {A : Type 0} (P : A → Type 0) (xs ys : List A) → All P (xs ++ ys) → All P xs × All P ys
all_each P [] ys h = (tt, h)
all_each P (x ∷ xs) ys h = let (a, b) = all_each P xs ys h.1 in ((h.0, a), b)

-- x and y between q and r: x stands behind q, and y behind both
module _ (q x y r : List ℕ) where
  abbrev pub stood : List ℕ
  stood = q ++ ((x ++ y) ++ r)

  pub first_stood : q ++ (x ++ (y ++ r)) ≡ stood
  first_stood = ap (λ (l : List ℕ). q ++ l) (sym (append_assoc x y r))

  pub second_stood : (q ++ x) ++ (y ++ r) ≡ stood
  second_stood = simp append_assoc

  -- what is so of a text at its place is so of the first and of the second
  pub at_first : (P : List ℕ → Type 0) → P (q ++ (x ++ (y ++ r))) → P stood
  at_first P h = subst P first_stood h

  pub at_second : (P : List ℕ → ℕ → Type 0) → P ((q ++ x) ++ (y ++ r)) (length (q ++ x)) → P stood (length q + length x)
  at_second P h = subst (λ (l : List ℕ). P l (length q + length x)) second_stood (subst (P ((q ++ x) ++ (y ++ r))) (length-append q x) h)

-- ---- one behind the other

module _ {A B C D : Type 0} (S : Section A B) (T : Section C D) where
  abbrev both_texts : A × C → List (Kind × Span)
  both_texts p = S.texts p.0 ++ T.texts p.1

  abbrev both_locate : ℕ → B × D → A × C
  both_locate n p = (S.locate n p.0, T.locate (n + length (S.bytes.print p.0)) p.1)

  module _ (q r : List ℕ) (p : B × D) (ok : (pair S.bytes T.bytes).Ok p) where
    abbrev x : List ℕ
    x = S.bytes.print p.0

    abbrev y : List ℕ
    y = T.bytes.print p.1

    pub both_located : ◌≡◌ {A = B × D} (S.resolve (stood q x y r) (S.locate (length q) p.0), T.resolve (stood q x y r) (T.locate (length q + length x) p.1)) p
    both_located =
        let a = at_first q x y r (λ (s : List ℕ). S.resolve s (S.locate (length q) p.0) ≡ p.0) (S.located q (y ++ r) p.0 ok.0) in
        let b = at_second q x y r (λ (s : List ℕ) (n : ℕ). T.resolve s (T.locate n p.1) ≡ p.1) (T.located (q ++ x) r p.1 ok.1) in
        λ i. (a i, b i)

    pub both_ok : length (stood q x y r) ≤ text_most → (pair S.words T.words).Ok (both_locate (length q) p)
    both_ok h = (
      S.locate_ok q (y ++ r) p.0 ok.0 (subst (λ (s : List ℕ). length s ≤ text_most) (sym (first_stood q x y r)) h),
      subst (λ (n : ℕ). T.words.Ok (T.locate n p.1)) (length-append q x)
          (T.locate_ok (q ++ x) r p.1 ok.1 (subst (λ (s : List ℕ). length s ≤ text_most) (sym (second_stood q x y r)) h)),
    )

    pub both_texts_lem : All (Allowed (stood q x y r)) (both_texts (both_locate (length q) p))
    both_texts_lem =
        all_both (Allowed (stood q x y r)) (S.texts (S.locate (length q) p.0)) (T.texts (T.locate (length q + length x) p.1))
        (at_first q x y r (λ (s : List ℕ). All (Allowed s) (S.texts (S.locate (length q) p.0))) (S.locate_texts q (y ++ r) p.0 ok.0))
        (at_second q x y r (λ (s : List ℕ) (n : ℕ). All (Allowed s) (T.texts (T.locate n p.1))) (T.locate_texts (q ++ x) r p.1 ok.1))

  abbrev pub both : Section (A × C) (B × D)
  both =
      record {
        words = pair S.words T.words;
        texts = both_texts;
        bytes = pair S.bytes T.bytes;
        resolve = λ t p. (S.resolve t p.0, T.resolve t p.1);
        locate = both_locate;
        located = both_located;
        locate_ok = both_ok;
        locate_texts = both_texts_lem;
        resolve_ok =
            λ t p ok h. (
            let (a, b) = all_each (Allowed t) (S.texts p.0) (T.texts p.1) h in
            (S.resolve_ok t p.0 ok.0 a, T.resolve_ok t p.1 ok.1 b)
            );
        same_words = λ t p n. simp (length-append, S.same_words, T.same_words);
      }

-- ---- behind a byte of its own

module _ {A B : Type 0} (k : ℕ) (S : Section A B) where
  abbrev pub behind : Section A B
  behind =
      record {
        words = S.words;
        texts = S.texts;
        bytes = tag k S.bytes;
        resolve = S.resolve;
        locate = λ n x. S.locate (n + 1) x;
        located = λ q r x ok. at_second q (k ∷ []) (S.bytes.print x) r (λ (s : List ℕ) (n : ℕ). S.resolve s (S.locate n x) ≡ x) (S.located (q ++ (k ∷ [])) r x ok);
        locate_ok =
            λ q r x ok h. subst (λ (n : ℕ). S.words.Ok (S.locate n x)) (length-append q (k ∷ []))
            (S.locate_ok (q ++ (k ∷ [])) r x ok (subst (λ (s : List ℕ). length s ≤ text_most) (sym (second_stood q (k ∷ []) (S.bytes.print x) r)) h));
        locate_texts =
            λ q r x ok.
            at_second q (k ∷ []) (S.bytes.print x) r (λ (s : List ℕ) (n : ℕ). All (Allowed s) (S.texts (S.locate n x))) (S.locate_texts (q ++ (k ∷ [])) r x ok);
        resolve_ok = S.resolve_ok;
        same_words = λ t a n. S.same_words t a (n + 1);
      }
