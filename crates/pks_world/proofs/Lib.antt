pub mod Keeping
pub mod Filling
pub mod Typing
pub mod Clearing
mod Counted
pub mod Writing
pub mod Effects
pub mod Gathering
pub mod Instances
pub mod Arguments
mod Telling
