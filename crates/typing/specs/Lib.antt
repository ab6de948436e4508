-- The environments that bodies start with, and what the typing of the bodies says of rule 12.
-- Laws, which a reader need not believe: the checker does.
pub mod Untyped
