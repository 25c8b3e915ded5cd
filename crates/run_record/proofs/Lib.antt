pub mod Counts
pub mod Done
pub mod Laws
