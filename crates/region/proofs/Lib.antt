pub mod Areas
pub mod Answers
pub mod Laws
pub mod Regions
