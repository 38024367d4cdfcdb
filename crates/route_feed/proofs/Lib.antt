pub mod AnswerLemmas
pub mod HandsLemmas
pub mod HintLemmas
pub mod ReaderLemmas
pub mod TableLemmas
