-- What a node binds.
pub mod Bound
-- Laws of a node's operands, which a reader need not believe: the checker does.
pub mod ListLaws
