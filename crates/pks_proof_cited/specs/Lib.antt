pub mod CitedViews
pub mod Walks
pub mod Exchanges
pub mod Givens
