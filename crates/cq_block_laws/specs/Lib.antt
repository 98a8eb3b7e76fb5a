pub mod Serving
pub mod Closing
pub mod Settling
pub mod Laws
pub mod Sessions
