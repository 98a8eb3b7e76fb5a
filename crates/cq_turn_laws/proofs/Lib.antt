pub mod Turns
pub mod Spare
pub mod Leaving
pub mod Judging
pub mod Phasing
pub mod Examples
