-- What `complete` promises, and what its inner function does.
pub mod Operation
pub mod Collect
