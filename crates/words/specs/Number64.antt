-- A 64-bit number in a record is low word, high word (document 01, Records). Assumes nothing.
use Rattle.std.specs.Prelude.{◌≡◌, ℕ, ◌+◌, ◌*◌, ◌/◌, ◌%◌, ◌^◌, ◌<◌}
use Rattle.std.proofs.Common.{ap, arith}
use Rattle.std.proofs.Math.Option.{some}
use Rattle.format.specs.Format.{Format}
use Rattle.format.specs.Basic.{via}
use Rattle.format.specs.Combine.{pair}
use Rattle.words.specs.Words.{word}

-- the two words of a number
pub halves : (lo hi n : ℕ) → lo < 2 ^ 32 → hi < 2 ^ 32 → some (lo + hi * 2 ^ 32) ≡ some n → (n < 2 ^ 64) × (◌≡◌ {A = ℕ × ℕ} (lo, hi) (n % 2 ^ 32, n / 2 ^ 32))
halves lo hi n h k e =
    let s : lo + hi * 2 ^ 32 ≡ n = cc in
    let l : lo ≡ n % 2 ^ 32 = omega arith in
    let m : hi ≡ n / 2 ^ 32 = omega arith in
    (omega arith, λ i. (l i, m i))

abbrev pub number64 : Format ℕ
number64 =
    via (pair word word)
    (record {
      OkA = λ n. n < 2 ^ 64;
      to = λ n. (n % 2 ^ 32, n / 2 ^ 32);
      of = λ w. some (w.0 + w.1 * 2 ^ 32);
      fits = λ n h. (omega arith, omega arith);
      of_to = λ n h. ap some (omega arith);
      to_of = λ w n h e. halves w.0 w.1 n h.0 h.1 e;
    })
