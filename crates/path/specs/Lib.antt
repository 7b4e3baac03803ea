pub mod Faults
pub mod Wordings
pub mod Questions
pub mod Reads
