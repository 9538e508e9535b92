-- Rule 5: the completed table, and the completion by slices.
pub mod Blocks
pub mod Completed
pub mod Slices
