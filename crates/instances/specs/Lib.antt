pub mod Any
pub mod Instances
pub mod Constants
pub mod Limits
