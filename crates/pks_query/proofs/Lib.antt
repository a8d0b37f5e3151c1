pub mod Alike
pub mod Found
pub mod Sound
pub mod Still
