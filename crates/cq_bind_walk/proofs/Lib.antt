pub mod Blocks
pub mod Layers
pub mod Made
pub mod Sizes
