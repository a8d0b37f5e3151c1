pub mod Fives
pub mod Own
pub mod Reading
pub mod Tables
pub mod Apart
pub mod Forms
