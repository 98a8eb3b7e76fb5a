pub mod Moving
pub mod Held
pub mod Keeping
