pub mod Part
pub mod Tests
