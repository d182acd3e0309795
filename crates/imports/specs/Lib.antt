-- Imports: entity types, the three forms of an import as words and as bytes, and what the import section is as a section.
pub mod Entity
pub mod Forms
pub mod Compact
pub mod Section
pub mod Names
pub mod Examples
