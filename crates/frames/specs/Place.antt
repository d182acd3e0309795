-- A frame at a place of some bytes: of which section it is, and where it ends. Assumes nothing.
use Rattle.std.specs.Prelude.{Option, None, Some, List, ℕ, drop}
use Rattle.format.specs.Parsed.{Parsed, fail, got}
use Rattle.format.specs.Read.{place_of}
use Rattle.frames.specs.Frames.{Frame, frame}

-- what was read of s, as an answer
abbrev pub placed : List ℕ → Parsed Frame → Option (ℕ × ℕ)
placed s fail = None
placed s (got f r) = Some (f.id, place_of s r)

unfoldable pub frame_at : List ℕ → ℕ → Option (ℕ × ℕ)
frame_at s at = placed s (frame.parse (drop at s))
