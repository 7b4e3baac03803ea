pub mod Cuts
pub mod Places
pub mod Roots
pub mod Parts
pub mod Parents
pub mod Branches
pub mod HideLemmas
