pub mod Writing
pub mod Reading
pub mod Loop
pub mod LebLaws
pub mod Length
pub mod Standard
pub mod Formats
