pub mod Stays
pub mod Plans
pub mod Reading
pub mod Yields
pub mod Refusing
