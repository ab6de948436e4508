pub mod Demand3
pub mod Demo
pub mod Wrong
