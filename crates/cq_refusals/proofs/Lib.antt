pub mod AloneLaws
pub mod FlawLaws
pub mod BlockLaws
pub mod CutLaws
pub mod LowestLaws
pub mod NumberLaws
