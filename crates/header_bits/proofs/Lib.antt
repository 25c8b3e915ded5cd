pub mod Fields
pub mod Checked
pub mod Readings
