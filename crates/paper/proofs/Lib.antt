-- The demands proved, the examples, what goes out, one result for each promise, and both round trips of bundles.
pub mod EndToEnd
pub mod Demands
pub mod Examples
pub mod OneResult
pub mod Outputs
pub mod RoundTrips
