pub mod Piles
pub mod Planned
pub mod Reads
