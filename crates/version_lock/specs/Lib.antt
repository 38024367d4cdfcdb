pub mod Callers
pub mod History
pub mod Rule
pub mod Seats
pub mod Steps
pub mod Tokens
