pub mod Decided
mod EqualLaws
pub mod Equals
mod Owned
mod Truths
