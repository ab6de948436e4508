-- A value that comes back to its node's frame: what each answer promises.
pub mod Comes
pub mod FrameLaws
pub mod ComesLaws
