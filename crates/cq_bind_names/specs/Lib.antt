pub mod Checks
pub mod Joining
pub mod Worlds
pub mod Keys
pub mod Blocks
