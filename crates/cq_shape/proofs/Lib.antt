pub mod Nodes
pub mod LabelLaws
pub mod AscendingLaws
pub mod MemberLaws
