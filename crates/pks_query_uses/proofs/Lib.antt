pub mod Lists
pub mod IndexLaws
pub mod PlacingLaws
pub mod UsesLaws
