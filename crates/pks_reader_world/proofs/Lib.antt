mod Covering
pub mod Giving
mod Once
mod Putting
pub mod Typed
pub mod Refused
