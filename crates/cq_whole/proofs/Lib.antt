pub mod Nodes
pub mod NumberLaws
pub mod TableLaws
