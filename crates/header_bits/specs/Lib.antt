pub mod Outcome
pub mod Bits
pub mod Reader
