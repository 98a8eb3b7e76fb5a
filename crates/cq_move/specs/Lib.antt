pub mod Reports
pub mod Outcomes
pub mod Taking
