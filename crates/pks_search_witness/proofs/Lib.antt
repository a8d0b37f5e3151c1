pub mod Typed
mod Idle
mod Apart
