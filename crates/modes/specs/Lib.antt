-- Where the elements of a segment go: a mode and its place, words and bytes over one abstract syntax.
pub mod Mode
