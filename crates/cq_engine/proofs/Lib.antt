pub mod TwinLaws
pub mod KeyOrder
pub mod KeyLaws
pub mod ChangeLaws
