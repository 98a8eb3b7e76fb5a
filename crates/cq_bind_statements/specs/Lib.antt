pub mod Targets
pub mod Keeping
pub mod Checks
pub mod Options
pub mod Creating
