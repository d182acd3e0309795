-- LEB128: the standard's grammar; what is written and read; the form that the code has. The laws stand in proofs/, so that a definition that is wrong is refused by them.
pub mod Integers
pub mod Leb
pub mod Parts
