pub mod Ends
pub mod Families
pub mod Growing
pub mod Lasting
pub mod Read
