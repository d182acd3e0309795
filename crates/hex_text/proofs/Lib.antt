-- What the proofs of `hex_text` share.
pub mod Decoding
pub mod Printing
pub mod Reading
pub mod Checking
