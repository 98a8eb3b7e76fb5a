pub mod Entering
pub mod Carrying
