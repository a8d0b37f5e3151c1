pub mod Texts
pub mod Accepted
