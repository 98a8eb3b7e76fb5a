pub mod Scans
pub mod Texts
pub mod Ends
pub mod Left
pub mod Sound
pub mod Whole
pub mod Corollaries
