-- The rules of the language, in the order in which the paper and the report give them.
pub mod Maps
pub mod Trees
pub mod Program
pub mod Classes
pub mod Typing
pub mod Setting
pub mod Sites
pub mod Heap
pub mod Conform
pub mod Step
pub mod Run
pub mod Numbers
-- Theorems by computation.
pub mod Computing
pub mod Bench
pub mod Inputs
