pub mod Kept
pub mod Joined
pub mod WantedLaws
pub mod Nodes
pub mod Narrowed
