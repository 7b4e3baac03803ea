pub mod Apart
pub mod Runs
pub mod Found
pub mod Finds
pub mod Names
pub mod Firsts
