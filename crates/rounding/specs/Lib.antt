pub mod Magnitude
pub mod Zeros
