pub mod Typing
pub mod Near
pub mod Idle
pub mod Apart
