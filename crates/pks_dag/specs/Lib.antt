pub mod NodeViews
pub mod NodeEquality
pub mod Writes
pub mod Sharing
pub mod Lines
