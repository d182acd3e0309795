-- What the first byte or word of a value or storage type tells, in the words of the functions that tell it.
pub mod Told
