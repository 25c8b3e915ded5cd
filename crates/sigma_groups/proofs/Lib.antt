pub mod BlocksFit
mod Number
pub mod Laws
