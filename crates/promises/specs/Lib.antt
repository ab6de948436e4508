-- Type safety of programs: what is claimed of answers that meet the three promises, and two programs for which it is. Then four
-- wrong ways to run, none of which keeps the promise.
pub mod Demand3
pub mod Demo
pub mod Wrong
