-- The entries for C: an answer and what was lent beside it, as the outcomes that the other crates define; and that no contract allows two.
pub mod Outcomes
pub mod Bound
