pub mod Bounds
pub mod Cut
pub mod Near
pub mod PlanLaws
pub mod Stages
pub mod Statements
