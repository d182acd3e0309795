-- Lines out of pieces: what is said to an input, and what memory holds of that.
pub mod Input
pub mod Lines
pub mod Handing
pub mod Run
pub mod Keeping
