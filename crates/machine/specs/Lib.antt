-- The run as a loop of turns and strides: laws alone.
pub mod Runs
pub mod NextLaws
pub mod LedLaws
