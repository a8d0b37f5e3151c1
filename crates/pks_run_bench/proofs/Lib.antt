pub mod Generated
pub mod Numbered
pub mod Sizes
