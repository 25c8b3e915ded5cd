pub mod Vectors
pub mod Divisors
pub mod Room
pub mod Lanes
pub mod Meaning
