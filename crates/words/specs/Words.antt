-- A record's words (document 01, Records): a word is 32 bits; where two are unused, both are 0. Assumes nothing.
use Rattle.std.specs.Prelude.{◌≡◌, List, ℕ, ◌+◌, ◌<◌, ◌^◌, length, get_or, drop}
use Rattle.std.proofs.Common.{lt-ltb}
use Rattle.format.specs.Parsed.{got}
use Rattle.format.specs.Format.{Format}
use Rattle.format.specs.Basic.{number, tag, lit}
use Rattle.format.specs.Read.{drop_more}

abbrev pub word : Format ℕ
word = number (2 ^ 32)

pub word_at : (w : List ℕ) (at : ℕ) → at < length w → get_or w at 0 < 2 ^ 32 → word.parse (drop at w) ≡ got (get_or w at 0) (drop (at + 1) w)
word_at w at h k = rw (drop_more w at h, lt-ltb (get_or w at 0) (2 ^ 32) k)

abbrev pub unused : Format (Unit {0})
unused = tag 0 (lit 0)
