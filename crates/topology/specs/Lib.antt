pub mod Faults
pub mod Reading
pub mod Sections
pub mod Taken
