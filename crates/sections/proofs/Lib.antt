-- What the proofs of `sections` share.
pub mod Lengths
pub mod Behind
pub mod OneSection
pub mod Copying
pub mod Listed
pub mod Laying
pub mod Seen
pub mod Heading
pub mod Filling
