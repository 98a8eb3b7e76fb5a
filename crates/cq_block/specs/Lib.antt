pub mod Drafts
pub mod Ground
pub mod Running
pub mod Seating
