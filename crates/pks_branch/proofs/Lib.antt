pub mod Lists
pub mod Barring
pub mod WalkLaws
pub mod ChoicesRise
pub mod Parameters
pub mod Onward
