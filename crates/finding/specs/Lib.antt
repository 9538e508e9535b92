-- What the code of the descent knows, and what `find` promises.
pub mod Stepping
pub mod Operation
