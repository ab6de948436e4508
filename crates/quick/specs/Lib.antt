-- Operands that have their value without a frame.
pub mod Known
-- Laws.
pub mod KnownLaws
