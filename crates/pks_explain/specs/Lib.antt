pub mod EntryViews
pub mod Accepted
