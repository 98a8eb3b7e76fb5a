pub mod Steady
pub mod Phases
pub mod Turns
pub mod Beside
