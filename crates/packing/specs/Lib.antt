-- The bundle writer: the tables that row counts and bytes are, the conditions on which it refuses, and what it promises.
pub mod GivenTables
pub mod Operation
