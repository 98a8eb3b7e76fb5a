pub mod ReadingLaws
pub mod Naming
pub mod Copies
pub mod BlockLaws
pub mod Readings
pub mod SharedLaws
