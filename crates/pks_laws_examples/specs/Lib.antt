pub mod Worked
pub mod Reasoned
