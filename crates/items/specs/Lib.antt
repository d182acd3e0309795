-- The sum over the sections, what its records draw, and reading after adding.
pub mod Families
pub mod Record
pub mod Exception
pub mod Judging
pub mod Start
pub mod Reading
