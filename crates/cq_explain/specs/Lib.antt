pub mod Enumerated
pub mod Subplans
