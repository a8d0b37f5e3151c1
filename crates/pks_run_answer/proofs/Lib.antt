pub mod Accepting
pub mod Explaining
pub mod Lasting
pub mod OneReply
pub mod Parts
pub mod Planning
