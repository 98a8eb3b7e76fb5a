pub mod Meeting
pub mod Coming
pub mod Written
pub mod First
pub mod Finding
pub mod Going
pub mod Moves
