pub mod Asked
pub mod Effects
pub mod Cases
pub mod Places
