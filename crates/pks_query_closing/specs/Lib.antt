pub mod Reading
pub mod Possible
pub mod Rounds
pub mod Closing
pub mod Working
pub mod Carrying
pub mod Own
pub mod Listing
