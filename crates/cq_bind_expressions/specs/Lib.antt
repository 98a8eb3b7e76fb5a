pub mod Fronts
pub mod Keys
pub mod Operands
pub mod Pairs
