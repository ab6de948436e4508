-- The member that a class sees, the keys by which the tables of members are sorted, and counts of fields.
pub mod Counts
-- Laws, which a reader need not believe: the checker does.
pub mod Totals
pub mod Overrides
