-- The sections of a module, the order lists that they are written by, sections whose items are still to come, and the grammar of the standard that they are in.
pub mod Section
pub mod Order
pub mod Laid
pub mod Grammar
