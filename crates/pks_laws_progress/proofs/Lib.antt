pub mod Looking
pub mod Steps
pub mod Keeping
pub mod Following
pub mod Loose
pub mod Small
pub mod Bounded
pub mod ClosingEnds
