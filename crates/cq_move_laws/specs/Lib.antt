pub mod Notes
pub mod Moving
pub mod Laws
