pub mod Appended
pub mod Inserting
pub mod Listing
pub mod Unfolding
pub mod Numbering
pub mod SharedOnce
pub mod Depths
pub mod Walks
