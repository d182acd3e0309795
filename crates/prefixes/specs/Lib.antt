-- The prefix of a subtype: words and bytes over one abstract syntax.
pub mod Prefix
pub mod Agree
