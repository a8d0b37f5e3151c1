pub mod AddTexts
pub mod Fronts
pub mod Offered
pub mod Replaced
