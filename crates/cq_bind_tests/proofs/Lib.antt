pub mod ChainLaws
pub mod Results
