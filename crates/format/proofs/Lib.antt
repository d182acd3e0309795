pub mod Handing
pub mod Repeating
