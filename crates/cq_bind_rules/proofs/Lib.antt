pub mod Divisions
pub mod Placed
