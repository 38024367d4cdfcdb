pub mod Book
pub mod Flat
pub mod Keys
pub mod Objects
