-- What the proofs of `module` share.
pub mod Looking
pub mod Finishing
pub mod InGrammar
