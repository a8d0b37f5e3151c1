pub mod Deciding
pub mod Firsts
pub mod Numbering
pub mod Parted
pub mod Stating
pub mod Valid
pub mod Once
mod Answered
mod Lows
mod Declaring
