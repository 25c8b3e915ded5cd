pub mod Rows
pub mod Order
