-- Laws of binomials, and the table's entries.
pub mod ChooseLaws
pub mod Numbers
pub mod Pascal
