-- The report's reduction rules as a relation, the run as a relation, and that our functions for them agree.
pub mod AppendixB
pub mod ActivePlace
pub mod Agreement
pub mod Runs
pub mod Remembering
