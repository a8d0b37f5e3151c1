pub mod Applying
pub mod Lists
pub mod Placed
