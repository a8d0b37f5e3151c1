pub mod Contents
pub mod Few
pub mod First
pub mod Applied
pub mod Observed
pub mod Counts
