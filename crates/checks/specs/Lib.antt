-- Tests of rules, and refusals by number.
pub mod Tests
pub mod Refusals
pub mod Outcomes
