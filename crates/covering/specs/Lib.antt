-- The test of rule 4, row by row.
pub mod RowTest
