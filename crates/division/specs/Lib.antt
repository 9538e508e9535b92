-- Rules 2, 3, 4 and 6: marks, cones, complete tables and the descent.
pub mod Cones
pub mod Janet
pub mod Scan
pub mod Descent
pub mod Ranges
pub mod Checks
