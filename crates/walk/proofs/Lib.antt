pub mod Words
pub mod Marking
pub mod Opens
pub mod Picks
pub mod Rising
