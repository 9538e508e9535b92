-- The laws of the bundle, a file for each notion.
pub mod Examples
pub mod CheckLaws
pub mod AcceptedLaws
pub mod BytesLaws
pub mod ReadLaws
