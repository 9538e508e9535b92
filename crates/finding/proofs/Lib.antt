-- What the code of the descent needs.
pub mod SteppingLaws
pub mod OperationLaws
pub mod Examples
