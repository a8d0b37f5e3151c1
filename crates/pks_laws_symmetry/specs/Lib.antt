pub mod Trivial
pub mod Renamed
pub mod Fixed
