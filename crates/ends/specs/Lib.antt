-- The end of a run, after its last turn.
pub mod Finished
