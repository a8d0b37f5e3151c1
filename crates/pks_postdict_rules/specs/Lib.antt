pub mod Changes
pub mod Choosing
pub mod Targets
pub mod News
