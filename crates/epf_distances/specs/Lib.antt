pub mod Seen
pub mod Taps
pub mod Fields
