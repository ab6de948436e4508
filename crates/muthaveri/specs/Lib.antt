-- What each question answers.
pub mod Answers
-- Laws.
pub mod AnswersLaws
