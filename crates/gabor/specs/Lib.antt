pub mod Pass
pub mod Outcome
