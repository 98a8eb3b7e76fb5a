pub mod Leaving
pub mod Joining
pub mod Tasking
pub mod Outlines
pub mod Texts
