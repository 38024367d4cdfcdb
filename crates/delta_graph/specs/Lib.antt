pub mod Joined
pub mod Pushed
