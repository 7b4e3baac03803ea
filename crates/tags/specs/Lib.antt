pub mod Values
pub mod Tags
pub mod Grammar
pub mod Pieces
pub mod Tokens
pub mod Readers
