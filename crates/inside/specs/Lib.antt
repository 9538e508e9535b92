-- The first row that divides a query, and what `inside` promises.
pub mod FirstDividing
pub mod Operation
