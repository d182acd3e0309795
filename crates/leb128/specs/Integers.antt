-- Integers of the WebAssembly Core Specification 3.0 (Binary Format, Values, Integers): the grammars of uN and sN, over the width N, case by case as
-- they stand there. A byte is a number below 2 ^ 8. Padding is taken within the width, and the unused bits of a last byte must be 0, or the sign's.
use Rattle.std.specs.Prelude.{List, [], ◌∷◌, ℕ, ◌+◌, ◌-◌, ◌*◌, ◌^◌, ◌<◌, ◌≤◌, ℤ, pos, ◌+ℤ◌, ◌-ℤ◌, ◌*ℤ◌}

-- U N s n: the bytes s are a uN, and its value is n
--   uN ::= n:byte            ⇒ n                      (if n < 2^7 ∧ n < 2^N)
--        | n:byte m:u(N-7)   ⇒ 2^7 · m + (n - 2^7)    (if n ≥ 2^7 ∧ N > 7)
pub data U : ℕ → List ℕ → ℕ → Type 0 where
  u_last : (N n : ℕ) → n < 2 ^ 7 → n < 2 ^ N → U N (n ∷ []) n
  u_more : (N n m : ℕ) (s : List ℕ) → n < 2 ^ 8 → 2 ^ 7 ≤ n → 7 < N → U (N - 7) s m → U N (n ∷ s) (2 ^ 7 * m + (n - 2 ^ 7))

-- S N s z: the bytes s are an sN, and its value is z
--   sN ::= n:byte            ⇒ n                      (if n < 2^6 ∧ n < 2^(N-1))
--        | n:byte            ⇒ n - 2^7                (if 2^6 ≤ n < 2^7 ∧ n ≥ 2^7 - 2^(N-1))
--        | n:byte m:s(N-7)   ⇒ 2^7 · m + (n - 2^7)    (if n ≥ 2^7 ∧ N > 7)
pub data S : ℕ → List ℕ → ℤ → Type 0 where
  s_low : (N n : ℕ) → n < 2 ^ 6 → n < 2 ^ (N - 1) → S N (n ∷ []) (pos n)
  s_high : (N n : ℕ) → 2 ^ 6 ≤ n → n < 2 ^ 7 → 2 ^ 7 - 2 ^ (N - 1) ≤ n → S N (n ∷ []) (pos n -ℤ pos (2 ^ 7))
  s_more : (N n : ℕ) (m : ℤ) (s : List ℕ) → n < 2 ^ 8 → 2 ^ 7 ≤ n → 7 < N → S (N - 7) s m → S N (n ∷ s) (pos (2 ^ 7) *ℤ m +ℤ (pos n -ℤ pos (2 ^ 7)))
