pub mod Steps
pub mod Offsets
pub mod Bounds
pub mod Channels
