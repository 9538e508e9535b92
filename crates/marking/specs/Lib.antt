-- The rows in ascending order, the marks of a row from those of the next, and what `marks` promises.
pub mod InOrder
pub mod NextRow
pub mod Operation
