-- What plain bytes are.
pub mod Plain
