pub mod Keys
pub mod Mapped
pub mod Rising
