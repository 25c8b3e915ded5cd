pub mod Bounds
pub mod Offsets
pub mod Local
