-- The laws of the text and of writing it.
pub mod TextLaws
pub mod BoundLaws
pub mod TableLaws
pub mod PartLaws
pub mod Examples
