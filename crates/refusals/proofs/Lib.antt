pub mod Outcomes
pub mod Tables
pub mod Rows
pub mod Answered
