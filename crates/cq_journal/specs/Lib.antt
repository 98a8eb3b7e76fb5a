pub mod Journals
pub mod Replies
pub mod Fitting
pub mod Laws
pub mod Records
pub mod Stations
