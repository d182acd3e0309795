-- Words of a record that are no text: one, two that are unused, and two that are a number of 64 bits; and walks over them.
pub mod Words
pub mod Number64
pub mod WordWalks
pub mod TwoWords
