-- UTF-8 as the standard has it (WebAssembly Core Specification 3.0, Binary Format, Values, Names): equations between a character and its bytes, case by case as
-- they stand there; and that `utf8` solves them, and nothing else does. Where the standard subtracts, the byte is no smaller. Assumes nothing.
use Rattle.std.specs.Prelude.{◌≡◌, refl, ◌↔◌, ◌⊎◌, true, not, List, [], ◌∷◌, ℕ, ◌+◌, ◌-◌, ◌*◌, ◌/◌, ◌%◌, ◌^◌, ◌≤◌, ◌<◌, ltb}
use Rattle.std.proofs.Common.{sym, inl, inr, ⊎_elim, true≢false, arith, lt-ltb, le-ltb, ltb-true, le-leb}
use Rattle.std.proofs.lemmas.Bool.{lt-leb}
use Rattle.format.specs.Write.{fits_or}
use Rattle.names.specs.Utf8.{surrogate, scalar, utf8}
use Rattle.names.specs.Char.{by_range, both_true}

-- b2, b3, b4: continuation bytes
pub record Cont (b : ℕ) : Type 0 where
  pub least : 0x80 ≤ b
  pub below : b < 0xC0

-- Encodes ch s: utf8(ch) = s
--   utf8(ch) = b             if ch < U+80 and ch = b
--            = b1 b2         if U+80 ≤ ch < U+800 and ch = 2^6 (b1 - C0) + (b2 - 80)
--            = b1 b2 b3      if U+800 ≤ ch < U+D800 or U+E000 ≤ ch < U+10000, and ch = 2^12 (b1 - E0) + 2^6 (b2 - 80) + (b3 - 80)
--            = b1 b2 b3 b4   if U+10000 ≤ ch < U+110000 and ch = 2^18 (b1 - F0) + 2^12 (b2 - 80) + 2^6 (b3 - 80) + (b4 - 80)
pub data Encodes (ch : ℕ) : List ℕ → Type 0 where
  one_byte : (b : ℕ) → ch < 0x80 → ch ≡ b → Encodes ch (b ∷ [])
  two_bytes : (b1 b2 : ℕ) → 0x80 ≤ ch → ch < 0x800 → 0xC0 ≤ b1 → Cont b2
      → ch ≡ 2 ^ 6 * (b1 - 0xC0) + (b2 - 0x80) → Encodes ch (b1 ∷ b2 ∷ [])
  three_bytes : (b1 b2 b3 : ℕ) → ((0x800 ≤ ch) × (ch < 0xD800)) ⊎ ((0xE000 ≤ ch) × (ch < 0x10000)) → 0xE0 ≤ b1 → Cont b2 → Cont b3
      → ch ≡ 2 ^ 12 * (b1 - 0xE0) + 2 ^ 6 * (b2 - 0x80) + (b3 - 0x80) → Encodes ch (b1 ∷ b2 ∷ b3 ∷ [])
  four_bytes : (b1 b2 b3 b4 : ℕ) → 0x10000 ≤ ch → ch < 0x110000 → 0xF0 ≤ b1 → Cont b2 → Cont b3 → Cont b4
      → ch ≡ 2 ^ 18 * (b1 - 0xF0) + 2 ^ 12 * (b2 - 0x80) + 2 ^ 6 * (b3 - 0x80) + (b4 - 0x80) → Encodes ch (b1 ∷ b2 ∷ b3 ∷ b4 ∷ [])

-- a scalar value is below 110000 and no surrogate
in_range : (c : ℕ) → (c < 0xD800) ⊎ ((0xE000 ≤ c) × (c < 0x110000)) → scalar c ≡ true
in_range c (inl h) = rw (lt-ltb c 0x110000 (omega arith), lt-leb 0xD800 c h)
in_range c (inr (h, k)) = rw (lt-ltb c 0x110000 k, le-leb 0xD800 c (omega arith), le-ltb c 0xE000 h)

-- ---- the bytes are those that the equations fix

abbrev Fixed : ℕ → List ℕ → Type 0
Fixed c s = (scalar c ≡ true) × (s ≡ utf8 c)

only_one : (c b : ℕ) → c < 0x80 → c ≡ b → Fixed c (b ∷ [])
unfolding utf8
only_one c b h e = (in_range c (inl (omega arith)), rw (lt-ltb c 0x80 h) (cc))

only_two : (c b1 b2 : ℕ) → 0x80 ≤ c → c < 0x800 → 0xC0 ≤ b1 → Cont b2 → c ≡ 2 ^ 6 * (b1 - 0xC0) + (b2 - 0x80) → Fixed c (b1 ∷ b2 ∷ [])
unfolding utf8
only_two c b1 b2 h k l m e =
    let p : b1 ≡ 0xC0 + c / 64 = omega arith in
    let q : b2 ≡ 0x80 + c % 64 = omega arith in
    (in_range c (inl (omega arith)), rw (le-ltb c 0x80 h, lt-ltb c 0x800 k) (cc))

only_three : (c b1 b2 b3 : ℕ) → 0x800 ≤ c → c < 0x10000 → (c < 0xD800) ⊎ ((0xE000 ≤ c) × (c < 0x110000)) → 0xE0 ≤ b1 → Cont b2 → Cont b3
    → c ≡ 2 ^ 12 * (b1 - 0xE0) + 2 ^ 6 * (b2 - 0x80) + (b3 - 0x80) → Fixed c (b1 ∷ b2 ∷ b3 ∷ [])
unfolding utf8
only_three c b1 b2 b3 h k i l m n e =
    let d : c / 64 ≡ 2 ^ 6 * (b1 - 0xE0) + (b2 - 0x80) = omega arith in
    let p : b1 ≡ 0xE0 + c / 64 / 64 = omega arith in
    let q : b2 ≡ 0x80 + c / 64 % 64 = omega arith in
    let r : b3 ≡ 0x80 + c % 64 = omega arith in
    (in_range c i, rw (le-ltb c 0x80 (omega arith), le-ltb c 0x800 h, lt-ltb c 0x10000 k) (cc))

only_four : (c b1 b2 b3 b4 : ℕ) → 0x10000 ≤ c → c < 0x110000 → 0xF0 ≤ b1 → Cont b2 → Cont b3 → Cont b4
    → c ≡ 2 ^ 18 * (b1 - 0xF0) + 2 ^ 12 * (b2 - 0x80) + 2 ^ 6 * (b3 - 0x80) + (b4 - 0x80) → Fixed c (b1 ∷ b2 ∷ b3 ∷ b4 ∷ [])
unfolding utf8
only_four c b1 b2 b3 b4 h k l m n o e =
    let d : c / 64 ≡ 2 ^ 12 * (b1 - 0xF0) + 2 ^ 6 * (b2 - 0x80) + (b3 - 0x80) = omega arith in
    let f : c / 64 / 64 ≡ 2 ^ 6 * (b1 - 0xF0) + (b2 - 0x80) = omega arith in
    let p : b1 ≡ 0xF0 + c / 64 / 64 / 64 = omega arith in
    let q : b2 ≡ 0x80 + c / 64 / 64 % 64 = omega arith in
    let r : b3 ≡ 0x80 + c / 64 % 64 = omega arith in
    let t : b4 ≡ 0x80 + c % 64 = omega arith in
    (in_range c (inr (omega arith, k)), rw (le-ltb c 0x80 (omega arith), le-ltb c 0x800 (omega arith), le-ltb c 0x10000 h) (cc))

only : {c : ℕ} {s : List ℕ} → Encodes c s → Fixed c s
only {c} (one_byte b h e) = only_one c b h e
only {c} (two_bytes b1 b2 h k l m e) = only_two c b1 b2 h k l m e
only {c} (three_bytes b1 b2 b3 (inl (h, k)) l m n e) = only_three c b1 b2 b3 h (omega arith) (inl k) l m n e
only {c} (three_bytes b1 b2 b3 (inr (h, k)) l m n e) = only_three c b1 b2 b3 (omega arith) k (inr (h, omega arith)) l m n e
only {c} (four_bytes b1 b2 b3 b4 h k l m n o e) = only_four c b1 b2 b3 b4 h k l m n o e

-- ---- and they solve them

solves : (c : ℕ) → scalar c ≡ true → Encodes c (utf8 c)
unfolding utf8
solves c e =
    let (p, q) = both_true (ltb c 0x110000) (not (surrogate c)) e in
    let top = ltb-true c 0x110000 p in
    by_range c
    (λ h. rw (lt-ltb c 0x80 h) (one_byte c h refl))
    (λ h k. rw (le-ltb c 0x80 h, lt-ltb c 0x800 k) (two_bytes (0xC0 + c / 64) (0x80 + c % 64) h k (omega arith) (cont c) (omega arith)))
    (λ h k l. rw (le-ltb c 0x80 h, le-ltb c 0x800 k, lt-ltb c 0x10000 l)
    (three_bytes (0xE0 + c / 64 / 64) (0x80 + c / 64 % 64) (0x80 + c % 64) (outside k l q) (omega arith) (cont (c / 64)) (cont c) (omega arith)))
    (λ h k l. rw (le-ltb c 0x80 h, le-ltb c 0x800 k, le-ltb c 0x10000 l)
    (four_bytes (0xF0 + c / 64 / 64 / 64) (0x80 + c / 64 / 64 % 64) (0x80 + c / 64 % 64) (0x80 + c % 64) l top (omega arith) (cont (c / 64 / 64)) (cont (c / 64)) (cont c) (omega arith)))
  where
    cont : (n : ℕ) → Cont (0x80 + n % 64)
    cont n = record { least = omega arith; below = omega arith }

    outside : 0x800 ≤ c → c < 0x10000 → not (surrogate c) ≡ true → ((0x800 ≤ c) × (c < 0xD800)) ⊎ ((0xE000 ≤ c) × (c < 0x10000))
    outside h k n = ⊎_elim (λ (l : 0xE000 ≤ c). inr (l, k)) (λ (l : c < 0xE000). ⊎_elim (λ (m : 0xD800 ≤ c). absurd (never m l)) (λ (m : c < 0xD800). inl (h, m)) (fits_or 0xD800 c)) (fits_or 0xE000 c)
      where
        never : 0xD800 ≤ c → c < 0xE000 → ⊥
        never m l = true≢false (sym (rw (le-leb 0xD800 c m, lt-ltb c 0xE000 l) at n))

-- utf8(ch) is defined exactly of the scalar values, and is the one solution there
pub encodes_exactly : (c : ℕ) (s : List ℕ) → Encodes c s ↔ ((scalar c ≡ true) × (s ≡ utf8 c))
encodes_exactly c s = (only, λ (h, e). rw e (solves c h))
