pub mod Gathered
pub mod Read
pub mod Ruled
