-- What is promised, in one place: the three demands, the starred examples, what goes out, that each promise allows one result,
-- and both round trips of bundles.
pub mod Demands
pub mod Examples
pub mod OneResult
pub mod Outputs
pub mod RoundTrips
