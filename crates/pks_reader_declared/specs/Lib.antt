pub mod FirstFault
pub mod Views
