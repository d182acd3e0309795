pub mod Lists
pub mod Elements
pub mod Segments
pub mod Items
