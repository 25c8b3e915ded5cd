pub mod Measures
pub mod BlocksFit
pub mod Held
pub mod Outcome
pub mod Fitting
pub mod Examples
