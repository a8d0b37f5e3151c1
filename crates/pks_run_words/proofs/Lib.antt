pub mod Parsed
pub mod Spelling
pub mod Walking
