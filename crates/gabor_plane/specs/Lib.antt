pub mod Rows
pub mod Plane
