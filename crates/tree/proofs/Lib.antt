pub mod Slots
pub mod Stacks
pub mod Paths
pub mod XPath
