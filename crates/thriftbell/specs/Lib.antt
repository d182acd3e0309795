-- The public entries: what each answers and leaves, for every input; what an accepted add leaves; that items are read back; that the order of adds does not
-- matter; and that what is finished is a module of the standard.
pub mod Add
pub mod Accepted
pub mod Read
pub mod ReadBack
pub mod AddedRead
pub mod AnyOrder
pub mod Modules
