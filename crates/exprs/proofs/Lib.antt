-- What the proofs of `exprs` share.
pub mod Steps
pub mod Making
pub mod Ends
