-- Hex lines: what a frame does, and how a line is answered.
pub mod Done
pub mod Answer
