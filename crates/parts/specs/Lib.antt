-- The parts that records and items are made of, how they are put together, and how walks over them are.
pub mod Text
pub mod Both
pub mod Listed
pub mod Writing
pub mod Reading
pub mod Chosen
pub mod ListWalks
