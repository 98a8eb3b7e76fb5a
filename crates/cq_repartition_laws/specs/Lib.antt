pub mod Keys
pub mod Tasks
pub mod Laws
