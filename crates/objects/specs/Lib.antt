-- Fields of objects and new objects: what the answers say.
pub mod Spots
pub mod Made
-- Laws, which a reader need not believe: the checker does.
pub mod SpotLaws
pub mod MadeLaws
