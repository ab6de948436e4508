-- What lookups found, kept.
pub mod Memo
-- Laws.
pub mod MemoLaws
