pub mod LowestLaws
pub mod Number
pub mod Tests
