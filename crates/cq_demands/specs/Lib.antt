pub mod Demands
pub mod JoinDemands
