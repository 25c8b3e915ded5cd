pub mod Accepted
pub mod Rows
