pub mod RoundTrip
pub mod Example
pub mod Promises
