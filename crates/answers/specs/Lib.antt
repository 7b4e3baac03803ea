pub mod Lines
pub mod Opened
