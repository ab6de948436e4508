-- What a run is refused for.
pub mod Refusals
pub mod Judged
pub mod JudgedLaws
