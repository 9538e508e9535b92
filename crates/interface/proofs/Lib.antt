-- What the exported functions need: their answers fit 32 bits, and what they hand out is what the answers say.
pub mod Bounds
pub mod ExportLaws
