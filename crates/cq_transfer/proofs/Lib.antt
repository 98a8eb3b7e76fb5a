pub mod EnterLaws
pub mod RoundLaws
pub mod PassLaws
pub mod LoopLaws
pub mod EndLaws
