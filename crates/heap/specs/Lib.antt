-- The table of every class's fields; free slots.
pub mod Slots
-- Laws, which a reader need not believe: the checker does.
pub mod SlotLaws
pub mod WordLaws
