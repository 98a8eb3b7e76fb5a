pub mod Seen
pub mod Outlook
pub mod Alone
pub mod Reads
pub mod Writes
pub mod Staging
