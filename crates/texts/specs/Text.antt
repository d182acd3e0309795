-- A record's texts (document 01, Records): a span is a start and a length in the text that comes with it. What it holds, and the refusals that it draws.
-- Assumes nothing.
use Rattle.std.specs.Prelude.{◌≡◌, Bool, List, [], ◌∷◌, ℕ, ◌+◌, ◌-◌, ◌≤◌, ◌<◌, min, eqb, leb, length, take, drop}
use Rattle.std.proofs.Common.{ap, ◌∙◌, length-take, length-drop, le-leb}
use Rattle.std.proofs.Math.Bool.{true, false, cond}
use native.Mathlib.Omega.{arith}
use Rattle.std.proofs.lemmas.Bool.{lt-leb}
use Rattle.format.specs.Count.{no_refusal}
use Rattle.names.specs.Name.{is_name}
use Rattle.exprs.specs.Scan.{answer}
use Rattle.texts.specs.declared.Span.{Span}

-- a text is a name, a constant expression, or plain data
pub data Kind : Type 0 where
  named : Kind
  constant : Kind
  plain : Kind

-- it ends within the text; an empty one too has to
abbrev pub is_within : List ℕ → Span → Bool
is_within text at = leb (at.start + at.len) (length text)

-- its bytes; none where it ends past the text
unfoldable pub slice_of : List ℕ → Span → List ℕ
slice_of text at = cond (is_within text at) (take at.len (drop at.start text)) []

-- an expression as document 01 allows (Items to bytes, Constant expression)
abbrev pub is_expr : List ℕ → Bool
is_expr b = eqb (answer b) 0

-- a name's bytes, or an expression's; and what is drawn where they are not
abbrev pub is_kind : Bool → List ℕ → Bool
is_kind true b = is_name b
is_kind false b = is_expr b

abbrev pub not_kind : Bool → ℕ
not_kind true = 4
not_kind false = 5

-- document 01, Answers by number: a span ends past the text, 3; a name is not UTF-8, 4; an expression is not as above, 5
unfoldable pub past_of : List ℕ → Span → ℕ
past_of text at = cond (is_within text at) no_refusal 3

-- the lowest that a text draws
abbrev pub refusal_of : List ℕ → Kind → Span → ℕ
refusal_of text named at = min (past_of text at) (cond (is_name (slice_of text at)) no_refusal 4)
refusal_of text constant at = min (past_of text at) (cond (is_expr (slice_of text at)) no_refusal 5)
refusal_of text plain at = past_of text at

-- the lowest that any of a record's texts draws
abbrev pub lowest_of : List ℕ → List (Kind × Span) → ℕ
lowest_of text [] = no_refusal
lowest_of text (x ∷ xs) = min (refusal_of text x.0 x.1) (lowest_of text xs)

pub lowest_small : (text : List ℕ) (xs : List (Kind × Span)) → lowest_of text xs ≤ no_refusal
lowest_small text [] = omega arith
lowest_small text (x ∷ xs) = small (refusal_of text x.0 x.1) (lowest_of text xs) (lowest_small text xs)
  where
    small : (a b : ℕ) → b ≤ no_refusal → min a b ≤ no_refusal
    small a b h = omega arith

module _ (text : List ℕ) (at : Span) where
  module _ (h : at.start + at.len ≤ length text) where
    pub slice_in : slice_of text at ≡ take at.len (drop at.start text)
    unfolding slice_of
    slice_in = rw (le-leb (at.start + at.len) (length text) h)

    pub past_in : past_of text at ≡ no_refusal
    unfolding past_of
    past_in = rw (le-leb (at.start + at.len) (length text) h)

    pub long_in : length (slice_of text at) ≡ at.len
    long_in = ap length slice_in ∙ simp (length-take, length-drop) (omega arith)

  module _ (h : length text < at.start + at.len) where
    pub slice_past : slice_of text at ≡ []
    unfolding slice_of
    slice_past = rw (lt-leb (at.start + at.len) (length text) h)

    pub past_past : past_of text at ≡ 3
    unfolding past_of
    past_past = rw (lt-leb (at.start + at.len) (length text) h)

  pub past_small : past_of text at ≤ no_refusal
  unfolding past_of
  past_small = go (is_within text at)
    where
      go : (c : Bool) → cond {A = ℕ} c no_refusal 3 ≤ no_refusal
      go true = omega arith
      go false = omega arith

  -- as a part of the text is cut
  pub cut_is : at.start + at.len ≤ length text → take (at.start + at.len - at.start) (drop at.start text) ≡ slice_of text at
  cut_is h = let e : at.start + at.len - at.start ≡ at.len = omega arith in rw (e, slice_in h)

-- no lower refusal than 3 is drawn
drawn_least : (c : Bool) (k : ℕ) → 3 ≤ k → 3 ≤ cond c no_refusal k
drawn_least true k h = omega arith
drawn_least false k h = h

refusal_least : (text : List ℕ) (k : Kind) (at : Span) → 3 ≤ refusal_of text k at
unfolding past_of
refusal_least text named at = let p = drawn_least (is_within text at) 3 (omega arith) in let q = drawn_least (is_name (slice_of text at)) 4 (omega arith) in omega arith
refusal_least text constant at = let p = drawn_least (is_within text at) 3 (omega arith) in let q = drawn_least (is_expr (slice_of text at)) 5 (omega arith) in omega arith
refusal_least text plain at = drawn_least (is_within text at) 3 (omega arith)

pub lowest_least : (text : List ℕ) (xs : List (Kind × Span)) → 3 ≤ lowest_of text xs
lowest_least text [] = omega arith
lowest_least text (x ∷ xs) = both (refusal_of text x.0 x.1) (lowest_of text xs) (refusal_least text x.0 x.1) (lowest_least text xs)
  where
    both : (a b : ℕ) → 3 ≤ a → 3 ≤ b → 3 ≤ min a b
    both a b h k = omega arith
