pub mod Cases
pub mod Drafts
pub mod Parts
