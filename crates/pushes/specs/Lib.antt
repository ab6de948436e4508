-- Frames pushed, and blocks that wait for a value.
pub mod Turns
pub mod Kinds
pub mod EnterLaws
pub mod TakeUp
pub mod ArmedLaws
