-- A number by its sign and its magnitude, as the code has it, and what was read of some bytes in that form.
use Rattle.std.specs.Prelude.{ℕ, ◌+◌, ◌-◌, ◌*◌, ◌/◌, ◌%◌, ◌≤◌, ◌<◌, ◌^◌, ◌≡◌, refl, Bool, true, false, cond, List, leb as is_le, ℤ, pos, negsuc, length, Option, None, Some}
use Rattle.std.specs.Int.Signed.{mag}
use Rattle.format.specs.Parsed.{Parsed, fail, got}
use Rattle.format.specs.Read.{place_of}
use Rattle.leb128.specs.Leb.{leb}
use Rattle.leb128.specs.declared.Parts.{Parts}

abbrev pub by_sign : Bool → ℕ → ℤ
by_sign false a = pos a
by_sign true a = negsuc a

pub mag_sign : (neg : Bool) (a : ℕ) → mag (by_sign neg a) ≡ a
mag_sign true a = refl
mag_sign false a = refl

-- the k bits that a negative number turns over
abbrev pub ones_of : Bool → ℕ → ℕ
ones_of false k = 0
ones_of true k = 2 ^ k - 1

-- 2^n · z + d, for d below 2^n
abbrev pub join_by : ℕ → ℤ → ℕ → ℤ
join_by n (pos m) d = pos (m * 2 ^ n + d)
join_by n (negsuc m) d = negsuc (m * 2 ^ n + (2 ^ n - 1 - d))

abbrev pub parts : ℤ → Parts
parts (pos a) = record { neg = false; magnitude = a }
parts (negsuc a) = record { neg = true; magnitude = a }

abbrev pub parts_of : List ℕ → Parsed ℤ → Option (Parts × ℕ)
parts_of s fail = None
parts_of s (got z r) = Some (parts z, place_of s r)

-- z, read up to p, unless k / 7 bytes were enough for it: then it is not in its shortest form
abbrev pub short_at : Bool → ℕ → ℤ → ℕ → Option (Parts × ℕ)
short_at s k z p = cond (is_le (7 * length (leb s z)) k) None (Some (parts z, p))

-- ---- what the steps of the reader ask

-- k bits of whole groups stand below the last one, `top`, of the magnitude a
pub record Topped (k top a : ℕ) : Type 0 where
  pub fits : k < 64
  pub groups : k % 7 ≡ 0
  pub is : a / 2 ^ k ≡ top

-- the last byte b, all of it within the width, is the last group of v
pub record WholeByte (k b v : ℕ) : Type 0 where
  pub fits : k + 7 < 64
  pub groups : k % 7 ≡ 0
  pub small : b < 128
  pub is : v / 2 ^ k ≡ b

-- for the last byte b, behind k bits, N bits are left
pub record CutByte (N k b low : ℕ) : Type 0 where
  pub some : 1 ≤ N
  pub cut : N < 7
  pub fits : N + k ≤ 64
  pub groups : k % 7 ≡ 0
  pub below : low < 2 ^ k
  pub small : b < 128
