pub mod BlockLaws
pub mod RunLaws
pub mod SpreadNodes
