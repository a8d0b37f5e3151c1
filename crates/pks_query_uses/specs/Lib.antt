pub mod Occurring
pub mod Indexes
pub mod Words
