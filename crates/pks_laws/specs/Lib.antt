pub mod Lookup
pub mod OfSignature
pub mod OneTyped
pub mod Saying
