pub mod Readings
pub mod BlockLaws
