-- The set of variables that the code has, as the definitions have it.
pub mod Vars
