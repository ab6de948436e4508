-- Laws.
pub mod UnwindLaws
