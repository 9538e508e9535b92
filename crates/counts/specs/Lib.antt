-- Rules 7 to 9: count, polynomial, steady degree.
pub mod Counts
