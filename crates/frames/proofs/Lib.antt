-- What the proofs of `frames` share.
pub mod Placing
pub mod Walking
