pub mod Fields
mod Lanes
mod Loops
pub mod Seen
pub mod TapLaws
