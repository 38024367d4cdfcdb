pub mod MarkRuns
pub mod Runs
pub mod Values
pub mod VrfRuns
pub mod Whole
