-- What a leap comes to.
pub mod Lands
-- Laws.
pub mod LandsLaws
pub mod SetLaws
