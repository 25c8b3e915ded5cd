pub mod Arithmetic
pub mod Answers
pub mod Laws
pub mod Examples
