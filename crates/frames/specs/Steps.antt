-- A step of a walk over frames. Assumes nothing.
use Rattle.std.specs.Prelude.{◌≡◌, Option, None, Some, MatchOption, ℕ, List, ◌+◌, ◌≤◌, ◌<◌, length, slice_range}
use Rattle.std.specs.Borrow.{Bor}
use Rattle.frames.specs.Place.{frame_at}
use Rattle.frames.specs.declared.Frames.{Frames}

-- it finds the frame at its place, gives its section's id and its item, and stands behind it; or none begins there, and it stays
abbrev pub frame_steps : Frames → Option (ℕ × Bor (List ℕ)) → Frames → Type 0
frame_steps s r t =
    MatchOption r ((None ≡ frame_at s.bytes.now s.at) × (t ≡ s))
    (λ x. (Some (x.0, t.at) ≡ frame_at s.bytes.now s.at) × (x.0 < 16) × (s.at + 5 ≤ t.at) × (t.at ≤ length s.bytes.now) × (x.1.now ≡ slice_range s.bytes.now (s.at + 5) t.at) × (t.bytes ≡ s.bytes))
