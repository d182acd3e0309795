pub mod Tags
pub mod Modes
pub mod Places
