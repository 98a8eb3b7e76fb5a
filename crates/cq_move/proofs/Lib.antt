pub mod StoreLaws
pub mod NodeLaws
pub mod TakeLaws
