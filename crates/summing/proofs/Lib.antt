-- What the passes over the rows need.
pub mod PassLaws
