-- LEB128, for numbers without and with a sign alike: the shortest form, which is written; the standard's reading; and the reading that takes the
-- shortest form alone (document 01, Numbers). Both kinds are integers here: `pos a` is a, and `negsuc a` is -(a + 1), whose bits are those of a turned
-- over; `mag` of both is a, and `shr_z z 128` is z / 128, rounded down.
use Rattle.std.specs.Prelude.{ℕ, zero, suc, ◌+◌, ◌-◌, ◌*◌, ◌%◌, ◌^◌, List, [], ◌∷◌, Bool, true, false, cond, ◌&&◌, ltb, eqb, ℤ, pos, negsuc, length}
use Rattle.std.specs.Int.Signed.{mag, shr_z}
use Rattle.format.specs.Parsed.{Parsed, fail, got, bind, map}

-- the two kinds of numbers: uN and sN of the standard
abbrev pub unsigned : Bool
unsigned = false

abbrev pub signed : Bool
signed = true

-- z is a number of N bits: from 0 to 2^N - 1, or from -2^(N-1) to 2^(N-1) - 1
abbrev pub within : Bool → ℕ → ℤ → Bool
within false N (pos n) = ltb n (2 ^ N)
within false N (negsuc n) = false
within true N z = ltb (mag z) (2 ^ (N - 1))

-- ---- writing

-- a last byte holds the numbers from 0 to 2^7 - 1, or from -2^6 to 2^6 - 1
abbrev pub limit : Bool → ℕ
limit false = 128
limit true = 64

-- the bit that a sign takes
abbrev pub sign_bits : Bool → ℕ
sign_bits false = 0
sign_bits true = 1

-- the low seven bits in two's complement: z modulo 2^7
abbrev pub low : ℤ → ℕ
low (pos a) = a % 128
low (negsuc a) = 127 - a % 128

-- the shortest form of z, in at most k + 1 bytes
unfoldable pub leb_by : ℕ → Bool → ℤ → List ℕ
leb_by zero s z = low z ∷ []
leb_by (suc k) s z = elim (ltb (mag z) (limit s)) [ true ↦ low z ∷ [] | false ↦ (low z + 128) ∷ leb_by k s (shr_z z 128) ]

-- z that a last byte holds: its low seven bits; else those with the high bit set, and then the rest. mag z bounds the number of bytes
unfoldable pub leb : Bool → ℤ → List ℕ
leb s z = leb_by (mag z) s z

abbrev pub uleb : ℕ → List ℕ
uleb n = leb unsigned (pos n)

abbrev pub sleb : ℤ → List ℕ
sleb z = leb signed z

-- ---- reading

-- what a last byte says: n, or n - 2^7 where the sign bit is set
abbrev pub last_of : Bool → ℕ → ℤ
last_of false n = pos n
last_of true n = cond (ltb n 64) (pos n) (negsuc (127 - n))

-- 2^7 · z + d
abbrev pub join : ℤ → ℕ → ℤ
join (pos m) d = pos (m * 128 + d)
join (negsuc m) d = negsuc (m * 128 + (127 - d))

-- the standard's uN and sN at the front of some bytes (`Integers`): padding is taken
unfoldable pub wide : Bool → ℕ → List ℕ → Parsed ℤ
wide s N [] = fail
wide s N (b ∷ t) =
    cond (ltb b 128)
    (cond (within s N (last_of s b)) (got (last_of s b) t) fail)
    (cond (ltb b 256 && ltb 7 N) (map (λ z. join z (b - 128)) (wide s (N - 7) t)) fail)

-- how many bytes were taken of b, where r is left
abbrev pub taken : List ℕ → List ℕ → ℕ
taken b r = length b - length r

-- the shortest form only: as many bytes as are written
abbrev pub short : Bool → ℕ → List ℕ → Parsed ℤ
short s N b = bind (wide s N b) (λ z r. cond (eqb (taken b r) (length (leb s z))) (got z r) fail)
