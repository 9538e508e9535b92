-- What the walk needs.
pub mod AppendLaws
pub mod ClosingLaws
pub mod HeadLaws
