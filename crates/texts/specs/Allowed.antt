-- What a text has to be (document 01, Answers by number, 3 to 5): its span ends within, a name is UTF-8, an expression is as allowed. No refusal is
-- drawn exactly where all of a record's texts are so. Assumes nothing.
use Rattle.std.specs.Prelude.{◌≡◌, refl, ◌↔◌, Bool, true, false, cond, List, [], ◌∷◌, ℕ, ◌+◌, ◌≤◌, ◌<◌, min, length}
use Rattle.std.proofs.Common.{sym, true≢false}
use native.Mathlib.Omega.{arith}
use borrow.Author.Tests.{le-leb, leb-true, eqb-true, eq-eqb}
use Rattle.format.specs.Lists.{All}
use Rattle.format.specs.Count.{no_refusal}
use Rattle.names.specs.Utf8.{IsName}
use Rattle.names.specs.Name.{is_name, name_exactly}
use Rattle.exprs.specs.Grammar.{Expr}
use Rattle.exprs.specs.Scan.{answer}
use Rattle.exprs.specs.Checked.{zero_exactly}
use Rattle.texts.specs.Text.{Kind, named, constant, plain, is_within, slice_of, is_expr, past_of, refusal_of, lowest_of, lowest_small}
use Rattle.texts.specs.declared.Span.{Span}

-- bytes as their kind wants them
abbrev pub IsKind : Kind → List ℕ → Type 0
IsKind named b = IsName b
IsKind constant b = Expr b
IsKind plain b = Unit {0}

-- a span that ends within the text, and what it holds is of its kind
pub record Allowed (t : List ℕ) (x : Kind × Span) : Type 0 where
  pub within : x.1.start + x.1.len ≤ length t
  pub kind : IsKind x.0 (slice_of t x.1)

-- ---- a refusal of a test that fails

one_test : (c : Bool) (k : ℕ) → k < no_refusal → (cond c no_refusal k ≡ no_refusal) ↔ (c ≡ true)
one_test true k h = (λ e. refl, λ e. refl)
one_test false k h = (λ e. absurd (omega arith), λ e. absurd (true≢false (sym e)))

small_test : (c : Bool) (k : ℕ) → k < no_refusal → cond c no_refusal k ≤ no_refusal
small_test true k h = omega arith
small_test false k h = omega arith

both_none : (a b : ℕ) → a ≤ no_refusal → b ≤ no_refusal → (min a b ≡ no_refusal) ↔ ((a ≡ no_refusal) × (b ≡ no_refusal))
both_none a b h k = (λ e. (omega arith, omega arith), λ p. omega arith)

module _ (t : List ℕ) where
  small : (k : Kind) (at : Span) → refusal_of t k at ≤ no_refusal
  unfolding past_of
  small named at = let h = small_test (is_within t at) 3 (omega arith) in omega arith
  small constant at = let h = small_test (is_within t at) 3 (omega arith) in omega arith
  small plain at = small_test (is_within t at) 3 (omega arith)

  -- two tests, the first that of the place
  two_tests : (at : Span) (c : Bool) (k : ℕ) → k < no_refusal → (min (past_of t at) (cond c no_refusal k) ≡ no_refusal) ↔ ((at.start + at.len ≤ length t) × (c ≡ true))
  unfolding past_of
  two_tests at c k h =
      let p = one_test (is_within t at) 3 (omega arith) in
      let q = one_test c k h in
      let b = both_none (cond (is_within t at) no_refusal 3) (cond c no_refusal k) (small_test (is_within t at) 3 (omega arith)) (small_test c k h) in (
        λ e. let (x, y) = b.0 e in (leb-true (at.start + at.len) (length t) (p.0 x), q.0 y),
        λ (x, y). b.1 (p.1 (le-leb (at.start + at.len) (length t) x), q.1 y),
      )

  one_allowed : (k : Kind) (at : Span) → (refusal_of t k at ≡ no_refusal) ↔ Allowed t (k, at)
  unfolding past_of
  one_allowed named at =
      let g = two_tests at (is_name (slice_of t at)) 4 (omega arith) in
      let n = name_exactly (slice_of t at) in
      (λ e. let (x, y) = g.0 e in record { within = x; kind = n.0 y }, λ a. g.1 (a.within, n.1 a.kind))
  one_allowed constant at =
      let g = two_tests at (is_expr (slice_of t at)) 5 (omega arith) in
      let n = zero_exactly (slice_of t at) in (
        λ e. let (x, y) = g.0 e in record { within = x; kind = n.0 (eqb-true (answer (slice_of t at)) 0 y) },
        λ a. g.1 (a.within, eq-eqb (answer (slice_of t at)) 0 (n.1 a.kind)),
      )
  one_allowed plain at =
      let p = one_test (is_within t at) 3 (omega arith) in (
        λ e. record { within = leb-true (at.start + at.len) (length t) (p.0 e); kind = tt },
        λ a. p.1 (le-leb (at.start + at.len) (length t) a.within),
      )

  pub all_allowed : (l : List (Kind × Span)) → (lowest_of t l ≡ no_refusal) ↔ All (Allowed t) l
  all_allowed [] = (λ e. tt, λ a. refl)
  all_allowed (x ∷ l) =
      let b = both_none (refusal_of t x.0 x.1) (lowest_of t l) (small x.0 x.1) (lowest_small t l) in
      let o = one_allowed x.0 x.1 in
      let r = all_allowed l in
      (λ e. let (p, q) = b.0 e in (o.0 p, r.0 q), λ (p, q). b.1 (o.1 p, r.1 q))
