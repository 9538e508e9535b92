-- What the loops over bytes and rows need.
pub mod ByteLaws
pub mod BufferLaws
pub mod RowLaws
pub mod ChainLaws
