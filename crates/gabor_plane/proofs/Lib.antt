pub mod Plane
pub mod RowLaws
pub mod PairLaws
