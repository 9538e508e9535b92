-- The bundle: its format, the conditions on which it is refused, and what the reader promises.
pub mod Format
pub mod Checks
pub mod Operation
