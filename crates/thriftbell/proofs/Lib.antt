-- What the proofs of `thriftbell` share.
pub mod Adding
pub mod Reading
