pub mod Labels
pub mod Ascending
