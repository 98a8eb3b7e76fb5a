pub mod Staying
pub mod Covering
pub mod Taking
pub mod Apart
pub mod Serving
pub mod Examples
