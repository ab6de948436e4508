-- The sets of variables that the code has, as the definitions have them; and what the check of a tree finds.
pub mod Settle
-- Laws, which a reader need not believe: the checker does.
pub mod Unset
