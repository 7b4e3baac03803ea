pub mod Faults
pub mod Marks
pub mod Open
pub mod Walks
