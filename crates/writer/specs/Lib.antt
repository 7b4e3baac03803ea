pub mod Numberings
pub mod Outputs
pub mod Writings
pub mod Laws
