pub mod Sizes
pub mod Outcome
pub mod Sound
pub mod Statements
pub mod Examples
