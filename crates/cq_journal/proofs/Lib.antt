pub mod Replays
pub mod Replies
pub mod Ids
pub mod Fitting
