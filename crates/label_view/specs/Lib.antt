pub mod Columns
pub mod Gathered
pub mod Listed
pub mod Places
