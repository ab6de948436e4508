-- The answers' numbers, and what the conformity check's promise says.
pub mod Answers
pub mod Promise
-- Laws, which a reader need not believe: the checker does.
pub mod Laws
