pub mod Settling
pub mod Orders
pub mod LargeAgain
pub mod TaskWidths
