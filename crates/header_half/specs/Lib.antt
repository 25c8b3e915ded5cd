pub mod Value
pub mod Half
