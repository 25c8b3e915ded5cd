pub mod Channel
pub mod Gabor
