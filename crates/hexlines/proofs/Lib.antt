-- What the proofs of `hexlines` share.
pub mod Hearing
pub mod Answering
