pub mod Following
pub mod Loose
