pub mod Signed
pub mod Flags
pub mod Division
pub mod Order
pub mod Powers
pub mod Laws
pub mod Positions
