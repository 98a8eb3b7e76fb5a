pub mod WidthRules
pub mod WholeRules
pub mod Settled
pub mod OrderRules
