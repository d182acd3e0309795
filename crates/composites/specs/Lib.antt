-- Composite types: words and bytes over one abstract syntax.
pub mod Composite
pub mod Agree
