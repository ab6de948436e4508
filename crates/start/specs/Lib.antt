-- The room as a run begins.
pub mod Start
pub mod StartLaws
