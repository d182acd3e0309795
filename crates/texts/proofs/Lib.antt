-- What the proofs of `texts` share; and the theorems on answers 2 to 6 and on reading after adding, once for all sections.
pub mod Checks
pub mod Entry
pub mod Reading
