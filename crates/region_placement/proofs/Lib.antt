pub mod BlockLaws
pub mod PlacedLaws
