pub mod Breaking
pub mod Ending
pub mod Listing
pub mod Meeting
pub mod Telling
