pub mod Grouping
pub mod Keys
pub mod Ordering
pub mod Picks
pub mod Targets
