pub mod Start
pub mod Band
pub mod Result
