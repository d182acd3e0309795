-- Limits: words and bytes over one abstract syntax.
pub mod Flags
pub mod Limits
