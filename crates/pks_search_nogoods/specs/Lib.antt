pub mod Failing
pub mod Finds
pub mod Noted
pub mod Standing
