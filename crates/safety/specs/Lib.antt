-- Type safety. What is claimed: of the words of an image, a heap and inputs; of answers, whoever gave them; and of two programs.
pub mod Demand3
pub mod Answers
pub mod Demo
-- The same over trees.
pub mod Theorem
-- The invariant, and the laws that lead there, which a reader need not believe: the checker does.
pub mod Sets
pub mod Conform
pub mod Safe
pub mod Remember
pub mod Tables
pub mod Redexes
pub mod Steps
pub mod Safety
pub mod Typed
pub mod Image
pub mod Heaps
