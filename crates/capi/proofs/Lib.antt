-- What the proofs of `capi` share.
pub mod Telling
