-- Constant expressions: their grammar, and where the first one of some bytes ends.
pub mod Grammar
pub mod Scan
pub mod Laws
pub mod Const
pub mod Checked
