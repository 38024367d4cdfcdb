pub mod Falls
pub mod Gathering
