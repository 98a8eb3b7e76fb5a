pub mod Lists
pub mod Choosing
pub mod Reading
pub mod Standing
pub mod Serving
