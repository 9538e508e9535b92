-- The laws of the bundle writer, a file for each notion.
pub mod GivenLaws
pub mod CheckLaws
pub mod OperationLaws
pub mod RoundLaws
pub mod AgainLaws
pub mod LoopLaws
pub mod SearchLaws
pub mod Examples
