-- Heap, reference, value, storage and field types: words and bytes over one abstract syntax, and what reading finds as an answer.
pub mod Abstract
pub mod Words
pub mod Bytes
pub mod Vals
pub mod Agree
pub mod Answers
