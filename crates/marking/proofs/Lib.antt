-- What the code of marks needs.
pub mod NextRowLaws
pub mod InOrderLaws
pub mod WritingLaws
pub mod OperationLaws
pub mod Examples
