-- Binomials.
pub mod Choose
