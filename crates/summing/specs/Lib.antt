-- The sums over the rows of a table whose marks stand beside it.
pub mod Sums
