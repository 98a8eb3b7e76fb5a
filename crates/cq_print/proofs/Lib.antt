pub mod Parts
pub mod ReadAgain
