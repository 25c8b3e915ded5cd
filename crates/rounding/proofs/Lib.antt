pub mod MagnitudeLaws
pub mod Rounded
pub mod Side
pub mod Zeros
