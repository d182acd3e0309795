-- The store: frames, the state, what appending one leaves, what a walk over them finds, and that the order of calls does not matter.
pub mod Ids
pub mod Frames
pub mod Builder
pub mod Append
pub mod Place
pub mod Steps
pub mod Tally
pub mod Sums
pub mod Calls
