-- Texts of records: their words, what spans hold and draw, where an item's texts stand; and answers 2 to 6, once for all sections.
pub mod Text
pub mod Plain
pub mod Spans
pub mod Place
pub mod Allowed
pub mod Held
pub mod Judge
pub mod Section
