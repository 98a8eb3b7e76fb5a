pub mod JudgeLaws
pub mod ThroughLaws
pub mod ColumnLaws
pub mod TableLaws
pub mod RowLaws
