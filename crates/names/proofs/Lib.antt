-- What the proofs of `names` share.
pub mod Reading
pub mod Naming
