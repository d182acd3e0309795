-- Groups of subtypes: words and bytes over one abstract syntax, as parts; what the type section is as a section.
pub mod RecGroup
