pub mod Best
mod Once
mod Top
