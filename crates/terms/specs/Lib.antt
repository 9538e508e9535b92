-- The words in which every rule is written: monomials and tables, rule 1, the order of rows, rows as bytes, refusals; and the tables of the examples.
pub mod Monomials
pub mod Ideal
pub mod Order
pub mod Rows
pub mod Keys
pub mod TableChecks
pub mod ExampleTables
