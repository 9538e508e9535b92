-- Its laws.
pub mod RowTestLaws
