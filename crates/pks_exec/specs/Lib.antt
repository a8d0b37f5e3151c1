pub mod Runs
pub mod Instances
