-- The answers to a run.
pub mod Answers
-- Laws.
pub mod Laws
pub mod Promise
