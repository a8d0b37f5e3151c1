pub mod WalkViews
pub mod ChoiceOrder
pub mod Walks
pub mod Early
