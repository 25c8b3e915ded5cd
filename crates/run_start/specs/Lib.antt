pub mod Lowest
pub mod Pieces
pub mod Examples
