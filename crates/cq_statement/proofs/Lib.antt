pub mod LexingLaws
pub mod MeaningLaws
pub mod ParsingLaws
