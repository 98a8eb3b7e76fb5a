pub mod GroupLaws
pub mod Looks
pub mod MarkLaws
pub mod PlaceLaws
