pub mod Answered
pub mod Begun
pub mod Bounded
pub mod Crossing
pub mod Cuts
pub mod Meeting
pub mod Meets
pub mod Placed
pub mod SpanCuts
mod SpanRuns
