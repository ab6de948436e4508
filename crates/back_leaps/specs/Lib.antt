-- What a value that comes back to a frame promises.
pub mod Backs
-- Laws.
pub mod BackLaps
