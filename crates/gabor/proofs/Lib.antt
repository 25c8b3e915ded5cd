pub mod Fits
pub mod PassLaws
