-- Names (WebAssembly Core Specification 3.0, Values, Names, and Binary Format, Values, Names): the bytes of a name are the UTF-8 encodings of its
-- characters, one after the other, and a character is a Unicode scalar value. Assumes nothing.
use Rattle.std.specs.Prelude.{◌≡◌, Bool, true, cond, not, ◌&&◌, List, [], ◌∷◌, ℕ, ◌+◌, ◌/◌, ◌%◌, ltb, leb}
use Rattle.format.specs.Lists.{All, prints}

-- 0 to D7FF and E000 to 10FFFF
abbrev pub surrogate : ℕ → Bool
surrogate c = leb 0xD800 c && ltb c 0xE000

abbrev pub scalar : ℕ → Bool
scalar c = ltb c 0x110000 && not (surrogate c)

-- one byte below 80; two below 800, and then c is 2^6 (b1 - C0) + (b2 - 80); three below 10000, 2^12 (b1 - E0) + 2^6 (b2 - 80) + (b3 - 80);
-- else four, 2^18 (b1 - F0) + 2^12 (b2 - 80) + 2^6 (b3 - 80) + (b4 - 80); and b2, b3, b4 are below C0
unfoldable pub utf8 : ℕ → List ℕ
utf8 c =
    cond (ltb c 0x80) (c ∷ [])
    (cond (ltb c 0x800) ((0xC0 + c / 64) ∷ (0x80 + c % 64) ∷ [])
    (cond (ltb c 0x10000) ((0xE0 + c / 64 / 64) ∷ (0x80 + c / 64 % 64) ∷ (0x80 + c % 64) ∷ [])
    ((0xF0 + c / 64 / 64 / 64) ∷ (0x80 + c / 64 / 64 % 64) ∷ (0x80 + c / 64 % 64) ∷ (0x80 + c % 64) ∷ [])))

-- a name of these bytes
pub record IsName (bytes : List ℕ) : Type 0 where
  pub chars : List ℕ
  pub scalars : All (λ c. scalar c ≡ true) chars
  pub encoded : bytes ≡ prints utf8 chars
