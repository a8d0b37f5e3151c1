pub mod AtFork
pub mod Below
pub mod Building
pub mod Heights
pub mod Kept
pub mod Order
