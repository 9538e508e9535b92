-- The laws of tests and of refusals.
pub mod TestLaws
pub mod RefusalLaws
pub mod OutcomeLaws
