pub mod Picks
pub mod Stars
