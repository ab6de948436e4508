-- Laws of New.
pub mod NewLaws
