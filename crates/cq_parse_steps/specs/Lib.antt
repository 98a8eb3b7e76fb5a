pub mod Reads
pub mod Next
pub mod Entries
