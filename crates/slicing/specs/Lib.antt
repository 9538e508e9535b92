-- What the walk over the heads promises.
pub mod Walk
