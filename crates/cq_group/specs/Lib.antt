pub mod Moves
pub mod Groups
pub mod Calls
pub mod Opening
pub mod Resting
pub mod Incoming
