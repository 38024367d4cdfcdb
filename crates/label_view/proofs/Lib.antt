pub mod Found
pub mod Gathering
pub mod InRow
