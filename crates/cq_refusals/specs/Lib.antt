pub mod Flaws
pub mod Cuts
