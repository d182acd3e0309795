-- What an add answers of 2 to 6, once for all sections (document 01, Answers by number; Add: 1 to 7, lowest first). Assumes nothing.
use Rattle.std.specs.Prelude.{◌≡◌, ◌↔◌, Bool, true, false, cond, not, ◌||◌, ℕ, ◌≤◌, ◌<◌, min, leb, ltb, length, take, drop}
use Rattle.std.proofs.Math.Path.{refl}
use Rattle.std.proofs.Common.{sym, ap, ◌∙◌, true≢false, arith}
use Rattle.std.proofs.Math.Option.{Option, none, some, none-ne-some}
use mathlib.Core.List.{List, [], ◌∷◌, ◌++◌, append-nil}
use borrow.Author.Tests.{le-leb, leb-true, le-ltb, ltb-false}
use Rattle.format.specs.Count.{no_refusal}
use Rattle.format.specs.Parsed.{Parsed, fail, got, cond_inv}
use Rattle.format.specs.Format.{Format}
use Rattle.format.specs.Answers.{answer, NoneHolds, given_exactly, accepted_exactly, neither}
use Rattle.names.specs.Name.{is_name}
use Rattle.texts.specs.Text.{Kind, named, constant, plain, is_within, slice_of, is_expr, past_of, lowest_of}
use Rattle.texts.specs.declared.Span.{Span}

-- document 01, Records: a record is at most 4,096 words, a text at most 65,536 bytes; Answers by number, 6: so is an item
abbrev pub words_most : ℕ
words_most = 4096

abbrev pub text_most : ℕ
text_most = 65536

abbrev pub item_most : ℕ
item_most = 65536

-- some member passes the test
abbrev pub any_of : {A : Type 0} → (A → Bool) → List A → Bool
any_of p [] = false
any_of p (a ∷ l) = p a || any_of p l

-- ---- what a text can be refused for (document 01, Answers by number, 3 to 5)

-- a span ends past the text
abbrev pub ends_past : List ℕ → Kind × Span → Bool
ends_past t x = not (is_within t x.1)

-- a name is not UTF-8
abbrev pub is_bad_name : List ℕ → Kind × Span → Bool
is_bad_name t (named, at) = not (is_name (slice_of t at))
is_bad_name t (constant, at) = false
is_bad_name t (plain, at) = false

-- an expression is not as allowed
abbrev pub is_bad_expr : List ℕ → Kind × Span → Bool
is_bad_expr t (named, at) = false
is_bad_expr t (constant, at) = not (is_expr (slice_of t at))
is_bad_expr t (plain, at) = false

-- the refusals that spans draw, in their order
abbrev pub drawn : List ℕ → List (Kind × Span) → List (ℕ × Bool)
drawn t l = (3, any_of (ends_past t) l) ∷ (4, any_of (is_bad_name t) l) ∷ (5, any_of (is_bad_expr t) l) ∷ []

-- ---- the lowest refusal that texts draw is the first of the three, or none

abbrev first : Bool → Bool → Bool → ℕ
first a b c = answer ((3, a) ∷ (4, b) ∷ (5, c) ∷ (no_refusal, true) ∷ [])

-- with one refusal more
and_first : (a b c : Bool) → (min 3 (first a b c) ≡ 3) × (min 4 (first a b c) ≡ first a true c) × (min 5 (first a b c) ≡ first a b true) × (min no_refusal (first a b c) ≡ first a b c)
and_first true b c = (refl, refl, refl, refl)
and_first false true c = (refl, refl, refl, refl)
and_first false false true = (refl, refl, refl, refl)
and_first false false false = (refl, refl, refl, refl)

and_name : (w u a b c : Bool) → min (min (cond w no_refusal 3) (cond u no_refusal 4)) (first a b c) ≡ first (not w || a) (not u || b) c
and_name true true a b c = (and_first a b c).3
and_name true false a b c = (and_first a b c).1
and_name false true a b c = (and_first a b c).0
and_name false false a b c = (and_first a b c).0

and_expr : (w u a b c : Bool) → min (min (cond w no_refusal 3) (cond u no_refusal 5)) (first a b c) ≡ first (not w || a) b (not u || c)
and_expr true true a b c = (and_first a b c).3
and_expr true false a b c = (and_first a b c).2
and_expr false true a b c = (and_first a b c).0
and_expr false false a b c = (and_first a b c).0

and_data : (w a b c : Bool) → min (cond w no_refusal 3) (first a b c) ≡ first (not w || a) b c
and_data true a b c = (and_first a b c).3
and_data false a b c = (and_first a b c).0

first_stays : (a b c : Bool) (n : ℕ) → first a b c < no_refusal → answer ((3, a) ∷ (4, b) ∷ (5, c) ∷ (n, true) ∷ []) ≡ first a b c
first_stays true b c n h = refl
first_stays false true c n h = refl
first_stays false false true n h = refl
first_stays false false false n h = absurd (omega arith)

module _ (t : List ℕ) where
  pub lowest_is : (l : List (Kind × Span)) → lowest_of t l ≡ answer (drawn t l ++ ((no_refusal, true) ∷ []))
  unfolding past_of
  lowest_is [] = refl
  lowest_is ((named, at) ∷ l) =
      rw (lowest_is l) (and_name (is_within t at) (is_name (slice_of t at)) (any_of (ends_past t) l) (any_of (is_bad_name t) l) (any_of (is_bad_expr t) l))
  lowest_is ((constant, at) ∷ l) =
      rw (lowest_is l) (and_expr (is_within t at) (is_expr (slice_of t at)) (any_of (ends_past t) l) (any_of (is_bad_name t) l) (any_of (is_bad_expr t) l))
  lowest_is ((plain, at) ∷ l) = rw (lowest_is l) (and_data (is_within t at) (any_of (ends_past t) l) (any_of (is_bad_name t) l) (any_of (is_bad_expr t) l))

  pub none_drawn : (l : List (Kind × Span)) → (lowest_of t l ≡ no_refusal) ↔ NoneHolds (drawn t l)
  none_drawn l =
      let g = given_exactly no_refusal true (drawn t l) [] (λ e. omega arith) refl refl in
      (λ e. (g.0 (sym (lowest_is l) ∙ e)).0, λ h. lowest_is l ∙ g.1 (h, refl))

  -- a refusal that they draw is the answer, whatever is judged later; where they draw none, that decides
  pub drawn_first : (l : List (Kind × Span)) (later : List (ℕ × Bool)) → lowest_of t l < no_refusal → answer (drawn t l ++ later) ≡ lowest_of t l
  drawn_first l later h =
      let k : first (any_of (ends_past t) l) (any_of (is_bad_name t) l) (any_of (is_bad_expr t) l) < no_refusal = rw (lowest_is l) at h in
      rw (lowest_is l) (first_stays (any_of (ends_past t) l) (any_of (is_bad_name t) l) (any_of (is_bad_expr t) l) (answer later) k)

  pub drawn_none : (l : List (Kind × Span)) (later : List (ℕ × Bool)) → lowest_of t l ≡ no_refusal → answer (drawn t l ++ later) ≡ answer later
  drawn_none l later e = let (a, (b, (c, _))) = (none_drawn l).0 e in rw (a, b, c)

-- ---- records of any kind: their words, their texts, and the item that an add writes of one with a text

pub record Records (A : Type 0) : Type 1 where
  pub words : Format A
  pub texts : A → List (Kind × Span)
  pub item : List ℕ → A → List ℕ

-- a value, and nothing left over
abbrev all_of : {A : Type 0} → Parsed A → Option A
all_of fail = none
all_of (got a []) = some a
all_of (got a (x ∷ r)) = none

abbrev is_none : {A : Type 0} → Option A → Bool
is_none none = true
is_none (some a) = false

abbrev or_nothing : {A B : Type 0} → (A → List B) → Option A → List B
or_nothing f none = []
or_nothing f (some a) = f a

module _ {A : Type 0} (R : Records A) where
  -- the record whose words they are, all of them
  unfoldable pub record_in : List ℕ → Option A
  record_in w = all_of (cond (leb (length w) words_most) (R.words.parse w) fail)

  -- its texts, and its item
  abbrev pub texts_in : List ℕ → List (Kind × Span)
  texts_in w = or_nothing R.texts (record_in w)

  abbrev pub item_in : List ℕ → List ℕ → List ℕ
  item_in w t = or_nothing (R.item t) (record_in w)

  -- ---- document 01, Answers by number, 2 to 6, row by row

  -- words are no record, more than 4,096, or some left over
  abbrev pub is_no_record : List ℕ → Bool
  is_no_record w = is_none (record_in w)

  -- text too long, or a span ends past it
  abbrev pub has_bad_text : List ℕ → List ℕ → Bool
  has_bad_text w t = ltb text_most (length t) || any_of (ends_past t) (texts_in w)

  -- a name is not UTF-8
  abbrev pub has_bad_name : List ℕ → List ℕ → Bool
  has_bad_name w t = any_of (is_bad_name t) (texts_in w)

  -- an expression is not as above
  abbrev pub has_bad_expr : List ℕ → List ℕ → Bool
  has_bad_expr w t = any_of (is_bad_expr t) (texts_in w)

  -- item over 65,536 bytes
  abbrev pub is_large : List ℕ → List ℕ → Bool
  is_large w t = ltb item_most (length (item_in w t))

  -- lowest first
  abbrev pub conditions : List ℕ → List ℕ → List (ℕ × Bool)
  conditions w t = (2, is_no_record w) ∷ (3, has_bad_text w t) ∷ (4, has_bad_name w t) ∷ (5, has_bad_expr w t) ∷ (6, is_large w t) ∷ []

  abbrev pub why : List ℕ → List ℕ → ℕ
  why w t = answer (conditions w t)

  -- ---- each number is given exactly on its condition, where no earlier one's holds

  module _ (w t : List ℕ) where
    pub two_exactly : (why w t ≡ 2) ↔ (NoneHolds [] × (is_no_record w ≡ true))
    two_exactly = given_exactly 2 (is_no_record w) [] (drop 1 (conditions w t)) (λ e. omega arith) refl refl

    pub three_exactly : (why w t ≡ 3) ↔ (NoneHolds (take 1 (conditions w t)) × (has_bad_text w t ≡ true))
    three_exactly = given_exactly 3 (has_bad_text w t) (take 1 (conditions w t)) (drop 2 (conditions w t)) (λ e. omega arith) refl refl

    pub four_exactly : (why w t ≡ 4) ↔ (NoneHolds (take 2 (conditions w t)) × (has_bad_name w t ≡ true))
    four_exactly = given_exactly 4 (has_bad_name w t) (take 2 (conditions w t)) (drop 3 (conditions w t)) (λ e. omega arith) refl refl

    pub five_exactly : (why w t ≡ 5) ↔ (NoneHolds (take 3 (conditions w t)) × (has_bad_expr w t ≡ true))
    five_exactly = given_exactly 5 (has_bad_expr w t) (take 3 (conditions w t)) (drop 4 (conditions w t)) (λ e. omega arith) refl refl

    pub six_exactly : (why w t ≡ 6) ↔ (NoneHolds (take 4 (conditions w t)) × (is_large w t ≡ true))
    six_exactly = given_exactly 6 (is_large w t) (take 4 (conditions w t)) [] (λ e. omega arith) refl refl

    pub none_exactly : (why w t ≡ 0) ↔ NoneHolds (conditions w t)
    none_exactly = accepted_exactly (conditions w t) refl

  -- ---- words are a record's exactly if it can be printed, they are what it prints, and they are at most 4,096

  pub whole_back : (w : List ℕ) (a : A) → R.words.Ok a → w ≡ R.words.print a → R.words.parse w ≡ got a []
  whole_back w a ok e = ap R.words.parse (e ∙ sym (append-nil (R.words.print a))) ∙ R.words.back a [] ok

  whole_inv : (m : Parsed A) (a : A) → all_of m ≡ some a → m ≡ got a []
  whole_inv fail a e = absurd (none-ne-some a e)
  whole_inv (got b []) a e = cc
  whole_inv (got b (x ∷ r)) a e = absurd (none-ne-some a e)

  pub record_inv : (w : List ℕ) (a : A) → record_in w ≡ some a → R.words.Ok a × (w ≡ R.words.print a) × (length w ≤ words_most)
  unfolding record_in
  record_inv w a e =
      let p = cond_inv (leb (length w) words_most) (R.words.parse w) a [] (whole_inv _ a e) in
      let q = R.words.only w a [] p.1 in
      (q.0, q.1 ∙ append-nil (R.words.print a), leb-true (length w) words_most p.0)

  pub record_back : (w : List ℕ) (a : A) → R.words.Ok a → w ≡ R.words.print a → length w ≤ words_most → record_in w ≡ some a
  unfolding record_in
  record_back w a ok e h = rw (le-leb (length w) words_most h, whole_back w a ok e)

  pub no_record_exactly : (w : List ℕ) → (is_no_record w ≡ true) ↔ ((a : A) → R.words.Ok a → w ≡ R.words.print a → length w ≤ words_most → ⊥)
  no_record_exactly w = (there, go (record_in w) refl)
    where
      there : is_no_record w ≡ true → (a : A) → R.words.Ok a → w ≡ R.words.print a → length w ≤ words_most → ⊥
      there e a ok p h = true≢false (sym e ∙ ap is_none (record_back w a ok p h))

      go : (o : Option A) → record_in w ≡ o → ((a : A) → R.words.Ok a → w ≡ R.words.print a → length w ≤ words_most → ⊥) → is_none o ≡ true
      go none e n = refl
      go (some a) e n = let (ok, p, h) = record_inv w a e in absurd (n a ok p h)

  -- ---- an add is refused for none of these exactly if the words are a record's, and the text, its texts in it and the item are as they have to be

  pub record Fine (w t : List ℕ) : Type 0 where
    pub value : A
    pub is : record_in w ≡ some value
    pub short : length t ≤ text_most
    pub texts : lowest_of t (R.texts value) ≡ no_refusal
    pub fits : length (R.item t value) ≤ item_most

  pub fine : (w t : List ℕ) → why w t ≡ 0 → Fine w t
  fine w t e = go (record_in w) refl ((none_exactly w t).0 e)
    where
      go : (o : Option A) → record_in w ≡ o → NoneHolds (conditions w t) → Fine w t
      go none p (a, _) = absurd (true≢false (rw p at a))
      go (some v) p (_, (b, (c, (d, (f, _))))) =
          let (l, n) = neither (ltb text_most (length t)) (any_of (ends_past t) (texts_in w)) b in
          record {
            value = v;
            is = p;
            short = ltb-false text_most (length t) l;
            texts = (none_drawn t (R.texts v)).1 (rw p at n, (rw p at c, (rw p at d, tt)));
            fits = ltb-false item_most (length (R.item t v)) (rw p at f);
          }

  pub fine_accepted : (w t : List ℕ) → Fine w t → why w t ≡ 0
  fine_accepted w t f =
      let n = length (R.item t f.value) in
      rw (f.is, le-ltb text_most (length t) f.short)
      (drawn_none t (R.texts f.value) ((6, ltb item_most n) ∷ []) f.texts ∙ rw (le-ltb item_most n f.fits))
