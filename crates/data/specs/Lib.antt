-- Data segments: words and bytes over one abstract syntax, and what the data section is as a section.
pub mod Target
pub mod Segment
pub mod Examples
