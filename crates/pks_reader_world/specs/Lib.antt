pub mod Facts
pub mod Filling
pub mod Naming
pub mod Places
pub mod Stated
pub mod Typing
pub mod Views
