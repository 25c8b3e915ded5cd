pub mod Regions
pub mod Measures
pub mod Answers
