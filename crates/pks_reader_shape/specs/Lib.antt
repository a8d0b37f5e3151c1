pub mod Files
pub mod Grammar
pub mod GrammarViews
pub mod Language
pub mod Refusals
pub mod Walk
pub mod Words
