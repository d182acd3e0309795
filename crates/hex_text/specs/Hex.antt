-- Upper-case hexadecimal (document 01, Hex lines): a digit is a character, a byte is two digits, the high one first, and a line is a run of bytes.
-- Assumes nothing.
use Rattle.std.specs.Prelude.{◌≡◌, ℕ, ◌+◌, ◌-◌, ◌*◌, ◌/◌, ◌%◌, ◌<◌, ◌≤◌, Bool, false, cond, ◌⊎◌, List, [], ◌∷◌, length, nat_le, nat_lt, refl}
use Rattle.std.proofs.Common.{sym, ap, ◌∙◌, inl, inr, ⊎_elim, arith, lt-ltb, le-ltb, le-leb}
use Rattle.std.proofs.Math.Option.{Option, none, some, none-ne-some}
use Rattle.std.proofs.lemmas.Bool.{lt-leb}
use Rattle.format.specs.Format.{Format}
use Rattle.format.specs.Basic.{number, via}
use Rattle.format.specs.Combine.{pair}
use Rattle.format.specs.Lists.{prints}
use Rattle.format.specs.Runs.{run, run_only}
use Rattle.format.specs.Write.{fits_or}

-- ---- a digit, "upper-case hexadecimal": 0 to 9 are the characters 30 to 39, 10 to 15 are 41 to 46

unfoldable pub char_of : ℕ → ℕ
char_of d = cond (nat_lt d 10) (0x30 + d) (0x37 + d)

abbrev pub within : ℕ → ℕ → ℕ → Bool
within a b c = cond (nat_le a c) (nat_le c b) false

-- the digit that a character is, or none
unfoldable pub digit_of : ℕ → Option ℕ
digit_of c = cond (within 0x30 0x39 c) (some (c - 0x30)) (cond (within 0x41 0x46 c) (some (c - 0x37)) none)

within_or : (a b c : ℕ) → ((a ≤ c) × (c ≤ b)) ⊎ (a ≤ c → b < c)
within_or a b c = go (fits_or a c) (fits_or c b)
  where
    go : (a ≤ c) ⊎ (c < a) → (c ≤ b) ⊎ (b < c) → ((a ≤ c) × (c ≤ b)) ⊎ (a ≤ c → b < c)
    go (inl h) (inl k) = inl (h, k)
    go (inl h) (inr k) = inr (λ i. k)
    go (inr h) y = inr (λ i. absurd (omega arith))

outside : (a b c : ℕ) → (a ≤ c → b < c) → within a b c ≡ false
outside a b c f = ⊎_elim (λ h. rw (le-leb a c h, lt-leb c b (f h))) (λ h. rw (lt-leb a c h)) (fits_or a c)

pub digit_low : (c : ℕ) → 0x30 ≤ c → c ≤ 0x39 → digit_of c ≡ some (c - 0x30)
unfolding digit_of
digit_low c a b = rw (le-leb 0x30 c a, le-leb c 0x39 b)

pub digit_high : (c : ℕ) → 0x41 ≤ c → c ≤ 0x46 → digit_of c ≡ some (c - 0x37)
unfolding digit_of
digit_high c a b = rw (outside 0x30 0x39 c (λ h. omega arith), le-leb 0x41 c a, le-leb c 0x46 b)

pub digit_none : (c : ℕ) → (0x30 ≤ c → 0x39 < c) → (0x41 ≤ c → 0x46 < c) → digit_of c ≡ none
unfolding digit_of
digit_none c f g = rw (outside 0x30 0x39 c f, outside 0x41 0x46 c g)

pub char_low : (d : ℕ) → d < 10 → char_of d ≡ 0x30 + d
unfolding char_of
char_low d h = rw (lt-ltb d 10 h)

pub char_high : (d : ℕ) → 10 ≤ d → char_of d ≡ 0x37 + d
unfolding char_of
char_high d h = rw (le-ltb d 10 h)

pub digit_back : (d : ℕ) → d < 16 → digit_of (char_of d) ≡ some d
digit_back d h = go (fits_or 10 d)
  where
    go : (10 ≤ d) ⊎ (d < 10) → digit_of (char_of d) ≡ some d
    go (inl k) = rw (char_high d k) (digit_high (0x37 + d) (omega arith) (omega arith) ∙ ap some (omega arith))
    go (inr k) = rw (char_low d k) (digit_low (0x30 + d) (omega arith) (omega arith) ∙ ap some (omega arith))

pub digit_only : (c d : ℕ) → digit_of c ≡ some d → (d < 16) × (c ≡ char_of d)
digit_only c d e = go (within_or 0x30 0x39 c) (within_or 0x41 0x46 c)
  where
    go : ((0x30 ≤ c) × (c ≤ 0x39)) ⊎ (0x30 ≤ c → 0x39 < c) → ((0x41 ≤ c) × (c ≤ 0x46)) ⊎ (0x41 ≤ c → 0x46 < c) → (d < 16) × (c ≡ char_of d)
    go (inl (h, k)) y =
        let v : c - 0x30 ≡ d = cc (digit_low c h k) in
        let w : c ≡ 0x30 + d = omega arith in
        (omega arith, w ∙ sym (char_low d (omega arith)))
    go (inr f) (inl (h, k)) =
        let v : c - 0x37 ≡ d = cc (digit_high c h k) in
        let w : c ≡ 0x37 + d = omega arith in
        (omega arith, w ∙ sym (char_high d (omega arith)))
    go (inr f) (inr g) = absurd (none-ne-some d (sym (digit_none c f g) ∙ e))

pub char_small : (d : ℕ) → d < 16 → char_of d < 256
char_small d h = ⊎_elim (λ k. rw (char_high d k) (omega arith)) (λ k. rw (char_low d k) (omega arith)) (fits_or 10 d)

abbrev pub digit : Format ℕ
digit =
    via (number 256)
    (record { OkA = λ d. d < 16; to = char_of; of = digit_of; fits = char_small; of_to = digit_back; to_of = λ c d h e. digit_only c d e })

-- ---- a byte: two digits, the high one first

pub byte_of : (p : ℕ × ℕ) (n : ℕ) → (p.0 < 16) × (p.1 < 16) → some (16 * p.0 + p.1) ≡ some n → (n < 256) × (p ≡ (n / 16, n % 16))
byte_of p n (a, b) e =
    let v : 16 * p.0 + p.1 ≡ n = cc in
    let h : p.0 ≡ n / 16 = omega arith in
    let l : p.1 ≡ n % 16 = omega arith in
    (omega arith, λ i. (h i, l i))

abbrev pub hex_byte : Format ℕ
hex_byte =
    via (pair digit digit)
    (record {
      OkA = λ n. n < 256;
      to = λ n. (n / 16, n % 16);
      of = λ p. some (16 * p.0 + p.1);
      fits = λ n h. (omega arith, omega arith);
      of_to = λ n h. ap some (omega arith);
      to_of = byte_of;
    })

pub hex_some : (n : ℕ) → hex_byte.Ok n → 0 < length (hex_byte.print n)
hex_some n h = omega arith

-- ---- a line's bytes: none where a character is no digit ("lower case"), or there are "odd digits"

abbrev pub line_bytes : List ℕ → Option (List ℕ)
line_bytes = run hex_byte

-- the characters of some bytes
abbrev pub hex_of : List ℕ → List ℕ
hex_of = prints hex_byte.print

pub hex_long : (b : List ℕ) → length (hex_of b) ≡ 2 * length b
hex_long [] = refl
hex_long (x ∷ b) = omega (arith, hex_long b)

-- a line has two digits for each of its bytes
pub line_long : (s b : List ℕ) → line_bytes s ≡ some b → length s ≡ 2 * length b
line_long s b e = ap length (run_only hex_byte s b e).1 ∙ hex_long b
