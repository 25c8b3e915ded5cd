pub mod File
pub mod Read
pub mod Write
pub mod Entry
pub mod Examples
