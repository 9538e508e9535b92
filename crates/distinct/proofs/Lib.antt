-- The laws of equal rows.
pub mod Examples
pub mod EqualLaws
pub mod CheckLaws
