pub mod Placed
pub mod Blocks
