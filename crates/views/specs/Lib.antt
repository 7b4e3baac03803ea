pub mod Faults
pub mod Views
pub mod Parts
pub mod Settings
