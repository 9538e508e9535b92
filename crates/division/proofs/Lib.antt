-- The laws of the rules in specs/, a file for each notion; Facade passes on what the crates above may see.
pub mod JanetLaws
pub mod Cover
pub mod MarkByteLaws
pub mod SuccessorLaws
pub mod NumberLaws
pub mod DescentLaws
pub mod RangeLaws
pub mod Facade
pub mod Examples
