pub mod Crosses
pub mod DraftLaws
pub mod Moves
pub mod Serving
pub mod Seats
pub mod Seated
