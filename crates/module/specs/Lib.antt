-- The module that frames, an order list and a data count make, what finishing answers, the grammar of the standard, and that the order of calls does not matter to it.
pub mod Module
pub mod Finish
pub mod Sizes
pub mod Grammar
pub mod AnyOrder
pub mod Examples
