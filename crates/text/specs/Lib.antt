-- Numbers and lines as text.
pub mod Decimal
