-- How long a number is written, by the position of the highest set bit of its magnitude (document 01, Numbers): one law over both kinds, where the sign takes a
-- bit more. The magnitude of a negative z is -1 - z, `mag z`. Assumes nothing.
use Rattle.std.specs.Prelude.{◌≡◌, Bool, true, false, ℕ, zero, suc, ◌+◌, ◌-◌, ◌*◌, ◌/◌, ◌≤◌, ◌<◌, ◌^◌, ℤ, length}
use Rattle.std.proofs.Common.{ap, ◌∙◌, ⊎_elim, eq-zero-or-pos, add-one, arith, pow_mono}
use Rattle.std.specs.Int.Count.{count_leading_zeros, leading_of_zero}
use Rattle.std.proofs.lemmas.Nat.{leading_top}
use Rattle.std.specs.Int.Signed.{mag}
use Rattle.leb128.specs.Leb.{leb, sign_bits}
use Rattle.leb128.proofs.LebLaws.{limit_is, limit_some, leb_last, leb_some, bytes_at_most, bytes_above}

-- the bit at k is the highest that is set in a: 2^k ≤ a < 2^(k+1)
pub record Highest (a k : ℕ) : Type 0 where
  pub set : 2 ^ k ≤ a
  pub last : a < 2 ^ (k + 1)

one_sign : (s : Bool) → sign_bits s ≤ 1
one_sign true = omega arith
one_sign false = omega arith

module _ (s : Bool) (z : ℤ) where
  -- no bit is set
  pub length-zero : mag z ≡ 0 → length (leb s z) ≡ 1
  length-zero e = ap length (leb_last s z (omega (arith, limit_some s)))

  module _ (k : ℕ) (h : Highest (mag z) k) where
    -- m + 1 bytes hold the bits up to 7 m + 6, the sign's among them
    enough : (m : ℕ) → k + sign_bits s ≤ 7 * m + 6 → length (leb s z) ≤ m + 1
    enough m l =
        let p : k + 1 ≤ 7 * m + (7 - sign_bits s) = omega (arith, one_sign s) in
        bytes_at_most m s z (omega (arith, limit_is s m, pow_mono p, h.last))

    needed : (m : ℕ) → 7 * m ≤ k + sign_bits s → m < length (leb s z)
    needed zero l = leb_some s z
    needed (suc m) l =
        let p : 7 * m + (7 - sign_bits s) ≤ k = omega (arith, one_sign s) in
        omega (arith, bytes_above m s z (omega (arith, limit_is s m, pow_mono p, h.set)))

    pub length_by_bit : length (leb s z) ≡ (k + sign_bits s) / 7 + 1
    length_by_bit = omega (arith, enough ((k + sign_bits s) / 7) (omega arith), needed ((k + sign_bits s) / 7) (omega arith))

  -- counted from the top of N bits; where no bit is set, all N are zeros, and the length is that of the lowest bit
  pub length_by_zeros : (N : ℕ) → mag z < 2 ^ N → length (leb s z) ≡ (N - 1 - count_leading_zeros N (mag z) + sign_bits s) / 7 + 1
  length_by_zeros N h = ⊎_elim none some (eq-zero-or-pos (mag z))
    where
      none : mag z ≡ 0 → length (leb s z) ≡ (N - 1 - count_leading_zeros N (mag z) + sign_bits s) / 7 + 1
      none e =
          let q : N - 1 - count_leading_zeros N (mag z) ≡ 0 = rw (e, leading_of_zero N) (omega arith) in
          length-zero e ∙ rw q (omega (arith, one_sign s))

      some : 0 < mag z → length (leb s z) ≡ (N - 1 - count_leading_zeros N (mag z) + sign_bits s) / 7 + 1
      some p =
          let (k, e, l, u) = leading_top N (mag z) p h in
          let q : k ≡ N - 1 - count_leading_zeros N (mag z) = omega arith in
          length_by_bit k (record { set = l; last = rw add-one u }) ∙ ap (λ (n : ℕ). (n + sign_bits s) / 7 + 1) q
