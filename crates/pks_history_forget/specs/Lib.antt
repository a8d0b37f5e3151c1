pub mod Looking
pub mod Placed
pub mod Same
