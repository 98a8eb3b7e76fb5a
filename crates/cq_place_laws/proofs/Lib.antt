pub mod PlacingSums
pub mod PlacingJournal
pub mod PlacingDeeds
pub mod PlacingBlock
pub mod PlacingGroup
pub mod PlacingLaws
