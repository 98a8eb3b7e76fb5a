pub mod Spreading
pub mod Executing
