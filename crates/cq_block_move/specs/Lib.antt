pub mod Hands
pub mod Benches
pub mod Moves
pub mod Moving
