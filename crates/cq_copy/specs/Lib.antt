pub mod Texts
pub mod Values
pub mod Rows
pub mod Records
pub mod Lines
pub mod Data
