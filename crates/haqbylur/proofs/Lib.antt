pub mod AnswerValueLaws
