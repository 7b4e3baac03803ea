pub mod Bytes
pub mod Words
pub mod Lists
pub mod NameLists
pub mod Told
