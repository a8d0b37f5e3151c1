pub mod Choices
pub mod StableForms
pub mod Effects
pub mod Found
pub mod NewOnes
