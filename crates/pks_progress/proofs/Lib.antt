pub mod Lasting
pub mod Sharing
pub mod Stepping
pub mod Still
