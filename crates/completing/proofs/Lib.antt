-- What the operation needs, and example J.
pub mod OperationLaws
pub mod CollectLaws
pub mod Examples
