-- The laws of listings and of the passes that make them.
pub mod CountLaws
pub mod PassLaws
pub mod ListingLaws
pub mod TablePass
pub mod LoopLaws
