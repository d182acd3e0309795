-- Numbers at the widths in use: what answers stand for, and how tightly the entries are bound.
pub mod Answers
pub mod Outcomes
pub mod Decoded
