pub mod Blocks
pub mod Finding
pub mod Meanings
pub mod Reading
