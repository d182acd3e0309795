pub mod Entities
pub mod Imports
pub mod Members
