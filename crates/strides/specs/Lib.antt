-- What leaps in a row come to.
pub mod Reaches
-- Laws.
pub mod Bound
pub mod ReachLaws
