pub mod AnswerTold
pub mod CountsTold
