pub mod Setup
pub mod SetupFits
pub mod Makers
