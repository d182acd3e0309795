-- The sum of a line's bytes (document 01, Hex lines). Assumes nothing.
use Rattle.std.specs.Prelude.{◌≡◌, ℕ, ◌+◌, ◌-◌, ◌%◌, ◌<◌, ◌↔◌, List, [], ◌∷◌, ◌++◌, length, take, slice_index}
use Rattle.std.proofs.Common.{add-one, arith, take-suc}

abbrev pub total : List ℕ → ℕ
total [] = 0
total (x ∷ xs) = x + total xs

-- "the sum of all bytes", as it wraps in a byte
abbrev pub sum_of : List ℕ → ℕ
sum_of b = total b % 256

-- "The last byte makes the sum of all bytes wrap to 00"
abbrev pub check_of : List ℕ → ℕ
check_of b = (256 - sum_of b) % 256

total-append : (a b : List ℕ) → total (a ++ b) ≡ total a + total b
total-append [] b = omega arith
total-append (x ∷ a) b = omega (arith, total-append a b)

pub sum-append : (a b : List ℕ) → sum_of (a ++ b) ≡ (sum_of a + sum_of b) % 256
sum-append a b = omega (arith, total-append a b)

-- one byte more
pub sum_more : (b : List ℕ) (i : ℕ) → i < length b → sum_of (take (i + 1) b) ≡ (sum_of (take i b) + slice_index b i) % 256
sum_more b i h = rw (add-one i, take-suc b i 0 h) (omega (arith, total-append (take i b) (slice_index b i ∷ [])))

-- the check byte makes it wrap to 00, and no other byte does
pub check_exactly : (b : List ℕ) (c : ℕ) → c < 256 → (sum_of (b ++ (c ∷ [])) ≡ 0) ↔ (c ≡ check_of b)
check_exactly b c h = (λ e. omega (arith, sum-append b (c ∷ [])), λ e. omega (arith, sum-append b (c ∷ [])))
