pub mod Flags
pub mod Words
pub mod Bytes
