pub mod Responses
pub mod Shared
