-- Subtypes: words and bytes over one abstract syntax.
pub mod SubType
pub mod Agree
