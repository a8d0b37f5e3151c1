pub mod Files
pub mod Texts
pub mod Inputs
pub mod Views
