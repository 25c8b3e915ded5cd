pub mod Blocks
pub mod Region
pub mod Columns
pub mod TileLaws
pub mod ViewLaws
