-- The laws of counts.
pub mod SumLaws
pub mod ShareLaws
pub mod CountLaws
pub mod JanetCount
pub mod PolynomialLaws
pub mod Examples
