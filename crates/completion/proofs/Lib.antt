-- The laws of the completed table and of its completion by slices.
pub mod BlockLaws
pub mod RuleFive
pub mod SmallestTable
pub mod SliceLaws
pub mod LimitLaws
pub mod WalkLaws
pub mod Examples
