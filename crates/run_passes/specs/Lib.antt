pub mod Pass
pub mod Plan
pub mod PassAt
pub mod Near
pub mod Cut
pub mod Bounds
pub mod Statements
pub mod Makers
