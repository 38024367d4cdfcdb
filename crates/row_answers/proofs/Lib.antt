pub mod LinkEnds
pub mod Looking
mod NamesKnown
pub mod SameAnswers
