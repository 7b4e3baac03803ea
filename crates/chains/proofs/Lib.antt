pub mod Chained
pub mod Searches
