mod Outputs
mod Lengths
mod Appearances
pub mod NodeFields
mod Images
pub mod SamePlans
