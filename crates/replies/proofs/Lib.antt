-- What the proofs of `replies` share.
pub mod Hearing
pub mod Replying
pub mod Showing
pub mod Taking
