pub mod Mirrored
pub mod Exact
pub mod EndLaws
pub mod Local
