pub mod Bounds
pub mod Computing
pub mod Ordering
