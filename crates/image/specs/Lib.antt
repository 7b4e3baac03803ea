pub mod Fields
pub mod Named
pub mod Numbered
pub mod Showing
