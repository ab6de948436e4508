-- What the answers of a step's decisions say.
pub mod Outcomes
-- Laws, which a reader need not believe: the checker does.
pub mod RedexLaws
