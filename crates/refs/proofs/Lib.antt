pub mod Heaps
pub mod Words
pub mod Bytes
