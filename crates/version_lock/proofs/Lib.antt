pub mod Carried
pub mod Ends
pub mod Histories
pub mod Keeps
pub mod Numbers
pub mod PartsKeep
pub mod SeatsKept
