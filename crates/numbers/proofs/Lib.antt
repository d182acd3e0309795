pub mod Signs
pub mod Answering
pub mod Appending
