-- The laws of these promises.
pub mod OperationLaws
