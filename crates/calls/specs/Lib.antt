-- The blocks of a call.
pub mod Blocks
-- Laws.
pub mod CallLaws
