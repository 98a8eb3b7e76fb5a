pub mod LineLaws
pub mod ShardLaws
