pub mod GroupLaws
pub mod IdLaws
pub mod NamedLaws
pub mod RangeLaws
pub mod RefusalLaws
pub mod ShardLaws
pub mod WholeLaws
