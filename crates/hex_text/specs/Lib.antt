-- Lines of digits: their bytes, their sum, and the frames that they hold.
pub mod Hex
pub mod Decode
pub mod Sum
pub mod Words
pub mod Frame
pub mod Line
pub mod Held
