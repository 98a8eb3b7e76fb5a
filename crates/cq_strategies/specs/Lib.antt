pub mod Choices
pub mod Components
pub mod Planners
pub mod Shares
