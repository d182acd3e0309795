-- Names: their definition, a character as a format, the standard's equations for its bytes, and how bytes are decided to be a name.
pub mod Utf8
pub mod Char
pub mod Equations
pub mod Name
pub mod Place
pub mod Plain
