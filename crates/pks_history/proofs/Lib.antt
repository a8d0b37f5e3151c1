pub mod Reading
pub mod Alike
