-- The image check's answers, and what its promise says.
pub mod Answers
pub mod Promise
-- Laws, which a reader need not believe: the checker does.
pub mod Laws
