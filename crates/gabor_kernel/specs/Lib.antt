pub mod Ends
pub mod Formula
pub mod Gabor
pub mod Nine
pub mod Mirrored
pub mod Exact
