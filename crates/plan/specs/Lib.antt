pub mod Faults
pub mod Hashes
pub mod Plans
pub mod Reads
pub mod Documents
pub mod Trees
pub mod Drafts
