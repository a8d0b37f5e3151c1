pub mod Citing
pub mod Others
pub mod Ranging
pub mod Walking
pub mod Exchanging
pub mod Starting
