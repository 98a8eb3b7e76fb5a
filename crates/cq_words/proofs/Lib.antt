pub mod CommandLaws
pub mod NumberLaws
pub mod WordLaws
pub mod Examples
