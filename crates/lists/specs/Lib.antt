-- Lists of indices, value types or fields: words and bytes over one abstract syntax.
pub mod Member
pub mod Agree
