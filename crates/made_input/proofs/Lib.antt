pub mod Below
pub mod Blocks
