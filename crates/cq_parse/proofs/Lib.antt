pub mod Left
pub mod Promises
