pub mod Sizes
pub mod Steps
pub mod Ends
