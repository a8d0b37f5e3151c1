pub mod Kept
pub mod Ahead
