-- What a node's operands promise.
pub mod Enters
-- Laws.
pub mod EnterLaps
pub mod CallLaps
