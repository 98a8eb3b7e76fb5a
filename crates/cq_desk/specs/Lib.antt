pub mod Desks
pub mod Moving
pub mod Keeping
