pub mod StableSort
pub mod KeyLaws
pub mod AnswerLaws
pub mod Reorder
pub mod RowLaws
pub mod MapLaws
pub mod Nodes
