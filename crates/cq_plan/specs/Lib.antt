pub mod Begun
pub mod Alone
pub mod Claims
pub mod Touches
pub mod ClassLists
