pub mod Orders
pub mod Blocks
pub mod RunLaws
pub mod SteadyLaws
pub mod Sessions
pub mod Beside
