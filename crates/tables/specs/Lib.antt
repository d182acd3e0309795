-- Table, memory, global and tag types: words and bytes over one abstract syntax; tables, and what the table section is as a section.
pub mod TableType
pub mod GlobalType
pub mod TagType
pub mod Table
pub mod Examples
