pub mod Deeds
pub mod Gains
