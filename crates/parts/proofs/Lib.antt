pub mod Texts
pub mod Rest
