pub mod Cut
pub mod Laws
pub mod Offset
pub mod Statements
