-- Plain bytes: those below 80, which encode a character each, the one that they are (WebAssembly Core Specification 3.0, Binary Format, Names). Assumes
-- nothing.
use Rattle.std.specs.Prelude.{◌≡◌, ◌↔◌, Bool, true, List, ℕ, ◌≤◌, ◌<◌, length, get_or}

-- those from place i up to, not including, place j
abbrev pub Plain : List ℕ → ℕ → ℕ → Type 0
Plain s i j = (k : ℕ) → i ≤ k → k < j → get_or s k 0 < 0x80

-- all of them
abbrev pub IsPlain : List ℕ → Type 0
IsPlain s = Plain s 0 (length s)

-- b tells whether those from i to j are plain, as all their bits together do
pub record Bits (s : List ℕ) (i j b : ℕ) : Type 0 where
  pub told : b < 0x80 → Plain s i j
  pub back : Plain s i j → b < 0x80

-- r tells whether all are
pub record TellsPlain (s : List ℕ) (r : Bool) : Type 0 where
  pub is : (r ≡ true) ↔ IsPlain s
