pub mod Appending
pub mod Indents
pub mod Naming
pub mod TreeViews
pub mod Written
