-- Rows and blocks of rows as bytes.
pub mod Bytes
