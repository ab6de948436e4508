-- The member that a class sees, and the keys by which the tables of members are sorted.
pub mod Sees
pub mod Keys
pub mod Records
pub mod Types
pub mod Subtypes
pub mod Search
pub mod Chunks
pub mod Tables
