pub mod Faults
pub mod Plans
pub mod Bytes
pub mod Images
pub mod Openings
pub mod Laws
