pub mod Axis
pub mod Answers
pub mod Laws
