pub mod Significand
pub mod Fields
pub mod Widened
