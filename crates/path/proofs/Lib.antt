pub mod Wordings
pub mod Readings
pub mod Loops
