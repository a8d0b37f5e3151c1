pub mod Parameters
pub mod Offering
pub mod Replacing
