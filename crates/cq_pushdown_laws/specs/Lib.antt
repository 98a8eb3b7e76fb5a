pub mod Pushed
pub mod Tables
pub mod Laws
