pub mod Transparent
pub mod Testing
pub mod Examples
pub mod Fewer
pub mod Looks
pub mod Staying
pub mod Ends
