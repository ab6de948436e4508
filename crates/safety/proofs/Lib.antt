pub mod Theorem
pub mod Image
pub mod Heaps
pub mod Demand3
pub mod Answers
pub mod Demo
