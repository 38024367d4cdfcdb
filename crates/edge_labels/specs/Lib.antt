pub mod Atoms
pub mod Bits
pub mod Labels
pub mod Rows
