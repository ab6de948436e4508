-- The table of every class's fields.
pub mod Rows
pub mod RowLaws
pub mod IndexLaws
