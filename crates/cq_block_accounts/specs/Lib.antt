pub mod Accounts
pub mod Cluster
pub mod Blames
