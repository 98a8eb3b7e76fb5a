pub mod Forms
pub mod Layers
pub mod Marks
pub mod Places
pub mod Signs
