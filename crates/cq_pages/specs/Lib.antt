pub mod Pages
pub mod Shared
