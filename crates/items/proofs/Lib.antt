pub mod Sections
pub mod Judging
