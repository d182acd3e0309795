-- What the proofs of `plain` share.
pub mod Blocks
