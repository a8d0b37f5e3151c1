pub mod Going
pub mod Along
pub mod Texts
