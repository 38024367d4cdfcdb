pub mod Atoms
pub mod Index
pub mod Spans
