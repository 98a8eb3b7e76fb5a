pub mod WriteEffects
pub mod Keys
