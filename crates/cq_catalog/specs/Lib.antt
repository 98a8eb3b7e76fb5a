pub mod Contents
pub mod Creation
pub mod Distribution
pub mod Named
pub mod Placement
pub mod Ranges
pub mod Refusals
pub mod Whole
