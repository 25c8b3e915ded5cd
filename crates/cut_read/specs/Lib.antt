pub mod Outcome
pub mod Examples
