pub mod Found
pub mod Shorter
pub mod Unlooking
