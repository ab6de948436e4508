-- The report's figures 1 and 2, rule by rule.
pub mod Figure1
pub mod Figure2
-- Laws, which a reader need not believe: the checker does.
pub mod Agreement
pub mod FirstBreach
pub mod Laid
pub mod Bodies
pub mod Accepted
