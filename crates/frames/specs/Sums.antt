-- Sums over a list of ids. Assumes nothing.
use Rattle.std.specs.Prelude.{◌≡◌, refl, Bool, true, false, cond, List, [], ◌∷◌, ℕ, ◌+◌, eqb}
use Rattle.std.proofs.Common.{sym, ap, ap₂, ◌∙◌, true≢false, arith, eqb-true}
use Rattle.frames.specs.Ids.{among}

abbrev pub sum : List ℕ → (ℕ → ℕ) → ℕ
sum [] f = 0
sum (i ∷ is) f = f i + sum is f

-- no id twice
abbrev pub distinct : List ℕ → Bool
distinct [] = true
distinct (i ∷ is) = cond (among is i) false (distinct is)

pub sum_none : (is : List ℕ) → sum is (λ i. 0) ≡ 0
sum_none [] = refl
sum_none (i ∷ is) = omega (arith, sum_none is)

pub sum_same : (is : List ℕ) (f g : ℕ → ℕ) → ((i : ℕ) → f i ≡ g i) → sum is f ≡ sum is g
sum_same [] f g e = refl
sum_same (i ∷ is) f g e = ap₂ (λ (m n : ℕ). m + n) (e i) (sum_same is f g e)

pub sum-add : (is : List ℕ) (f g : ℕ → ℕ) → sum is (λ i. f i + g i) ≡ sum is f + sum is g
sum-add [] f g = refl
sum-add (i ∷ is) f g = omega (arith, sum-add is f g)

-- what counts at k alone
sum_away : (is : List ℕ) (k n : ℕ) → among is k ≡ false → sum is (λ i. cond (eqb k i) n 0) ≡ 0
sum_away [] k n e = refl
sum_away (i ∷ is) k n e = go (eqb k i) e (sum_away is k n)
  where
    go : (t : Bool) → cond t true (among is k) ≡ false → (among is k ≡ false → sum is (λ j. cond (eqb k j) n 0) ≡ 0)
        → cond t n 0 + sum is (λ j. cond (eqb k j) n 0) ≡ 0
    go true e f = absurd (true≢false e)
    go false e f = omega (arith, f e)

pub sum_one : (is : List ℕ) → distinct is ≡ true → (k n : ℕ) → among is k ≡ true → sum is (λ i. cond (eqb k i) n 0) ≡ n
sum_one [] d k n e = absurd (true≢false (sym e))
sum_one (i ∷ is) d k n e = go (eqb k i) refl (among is i) refl d e (λ d e. sum_one is d k n e)
  where
    go : (t : Bool) → eqb k i ≡ t → (u : Bool) → among is i ≡ u → cond u false (distinct is) ≡ true → cond t true (among is k) ≡ true
        → (distinct is ≡ true → among is k ≡ true → sum is (λ j. cond (eqb k j) n 0) ≡ n) → cond t n 0 + sum is (λ j. cond (eqb k j) n 0) ≡ n
    go t p true q d e f = absurd (true≢false (sym d))
    go true p false q d e f = omega (arith, sum_away is k n (ap (among is) (eqb-true k i p) ∙ q))
    go false p false q d e f = omega (arith, f d e)
