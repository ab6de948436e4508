-- The image: its numbers, its trailer and sections, its records, its nodes, and the rules 1 to 9 of its layout.
pub mod Numbers
pub mod Trailer
pub mod Records
pub mod Nodes
pub mod Layout
pub mod Views
-- Laws, which a reader need not believe: the checker does.
pub mod Laws
