-- The laws of both.
pub mod FirstLaws
pub mod OperationLaws
pub mod Examples
