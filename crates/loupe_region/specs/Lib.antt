pub mod Widened
pub mod Fits
pub mod Outcome
pub mod Examples
