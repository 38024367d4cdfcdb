pub mod HolesByRange
pub mod Parts
pub mod Ranges
