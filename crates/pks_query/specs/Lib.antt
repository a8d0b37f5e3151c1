pub mod Closed
pub mod Steps
pub mod Starts
