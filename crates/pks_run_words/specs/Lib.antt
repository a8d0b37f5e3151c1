pub mod Command
pub mod JobViews
