-- The laws of numbers as text.
pub mod DecimalLaws
