-- Laws of values that fit their types.
pub mod FitLaws
