pub mod Mirror
pub mod Cut
pub mod Statements
pub mod Outcome
pub mod Examples
