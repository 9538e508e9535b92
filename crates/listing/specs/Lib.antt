-- The text of the listing, and what its writers promise.
pub mod Text
pub mod Operation
