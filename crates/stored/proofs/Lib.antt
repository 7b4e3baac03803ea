pub mod Bytes
pub mod NameFields
pub mod NodeFields
pub mod Turns
pub mod Storable
pub mod Openings
pub mod Places
