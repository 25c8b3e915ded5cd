pub mod Outcome
pub mod Pieces
pub mod Whole
pub mod Example
pub mod Promises
