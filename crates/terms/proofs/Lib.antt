-- The laws of the words in specs/, a file for each notion.
pub mod MonomialLaws
pub mod IdealLaws
pub mod OrderLaws
pub mod RowsLaws
pub mod TableLaws
pub mod LoopLaws
pub mod KeyLaws
pub mod Examples
