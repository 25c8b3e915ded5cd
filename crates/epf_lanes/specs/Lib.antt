pub mod Lanes
pub mod Divisors
