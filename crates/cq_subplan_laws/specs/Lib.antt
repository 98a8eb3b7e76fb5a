pub mod Subplans
pub mod Laws
