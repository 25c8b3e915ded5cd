pub mod Integers
pub mod Interval
pub mod Overlap
pub mod Grid
pub mod Examples
