pub mod Blocks
pub mod Tile
pub mod Region
pub mod Views
