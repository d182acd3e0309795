-- Where a character that begins at a place ends, and which second bytes there are. Assumes nothing.
use Rattle.std.specs.Prelude.{◌≡◌, Bool, cond, not, ◌&&◌, List, ℕ, ◌≤◌, ◌<◌, eqb, ltb, length, get_or, drop, Option, Some, None}
use Rattle.format.specs.Parsed.{Parsed, fail, got}
use Rattle.format.specs.Format.{Format}
use Rattle.format.specs.Read.{place_of}

-- none where none does
abbrev pub end_of : List ℕ → Parsed ℕ → Option ℕ
end_of s fail = None
end_of s (got c r) = Some (place_of s r)

-- r is where a character that is read at a place of s ends
pub record EndsAt (F : Format ℕ) (s : List ℕ) (at : ℕ) (r : Option ℕ) : Type 0 where
  pub is : r ≡ end_of s (F.parse (drop at s))

-- a character begins at a place of s with the byte b, which is from lo on and below hi
pub record Leading (s : List ℕ) (at b lo hi : ℕ) : Type 0 where
  pub within : at < length s
  pub is : get_or s at 0 ≡ b
  pub from : lo ≤ b
  pub below : b < hi

-- from lo on and below hi
abbrev pub between : ℕ → ℕ → ℕ → Bool
between lo hi b = not (ltb b lo) && ltb b hi

-- r is below 40 where b is a third or fourth byte, and else it is not
pub record TellsMore (b r : ℕ) : Type 0 where
  pub is : between 0x80 0xC0 b ≡ ltb r 0x40

-- the second bytes behind a first one: E0 and F0 leave out what fewer bytes encode, ED the surrogates, F4 what is above 10FFFF
abbrev pub lowest : ℕ → ℕ
lowest b = cond (eqb b 0xE0) 0xA0 (cond (eqb b 0xF0) 0x90 0x80)

abbrev pub past : ℕ → ℕ
past b = cond (eqb b 0xED) 0xA0 (cond (eqb b 0xF4) 0x90 0xC0)

unfoldable pub is_second : ℕ → ℕ → Bool
is_second b c = between (lowest b) (past b) c
