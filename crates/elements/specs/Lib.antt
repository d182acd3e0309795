-- Element segments: their records and items over one abstract syntax, the one exception in reading, and what the element section is as a section.
pub mod Members
pub mod Segment
pub mod Item
pub mod Exception
pub mod Section
pub mod Written
pub mod Filled
pub mod Examples
