-- Rows listed in ascending order, and the passes that list them.
pub mod Listing
pub mod Passes
