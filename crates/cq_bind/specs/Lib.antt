pub mod Checks
pub mod TreeLists
