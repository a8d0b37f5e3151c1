pub mod Accepting
pub mod Goodness
pub mod Replies
