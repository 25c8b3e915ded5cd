pub mod Sigma
pub mod Outcome
pub mod Runs
pub mod Examples
