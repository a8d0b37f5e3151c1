pub mod Owning
pub mod Steps
