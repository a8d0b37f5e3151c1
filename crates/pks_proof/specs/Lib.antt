pub mod Doings
pub mod Acts
pub mod Lines
