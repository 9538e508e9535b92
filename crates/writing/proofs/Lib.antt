-- The laws of bytes put into a buffer, and of copies.
pub mod WrittenLaws
pub mod CopyLaws
