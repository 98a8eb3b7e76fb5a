pub mod StepLists
pub mod Tables
pub mod Laws
