pub mod LargeLaws
pub mod MergeLaws
pub mod StepLaws
