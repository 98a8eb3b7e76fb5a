pub mod Counting
pub mod Flaws
pub mod Made
pub mod Sides
pub mod Strategies
pub mod Walks
