pub mod Known
pub mod Law
pub mod Shelf
pub mod Publishing
