-- What the proofs of `lines` share.
pub mod Answering
pub mod Framing
pub mod Telling
