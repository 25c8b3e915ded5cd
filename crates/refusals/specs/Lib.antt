pub mod Refusals
pub mod Answered
pub mod Numbers
pub mod Checks
pub mod Flags
