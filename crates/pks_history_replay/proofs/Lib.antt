pub mod Sizes
pub mod Lengths
pub mod Readiness
pub mod Stepping
