pub mod Steps
pub mod Standing
pub mod Noting
pub mod Answering
pub mod Reaching
pub mod Tables
