-- Tables with equal rows, and the check 12.
pub mod EqualRows
