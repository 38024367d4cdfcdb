pub mod Adding
pub mod Editions
pub mod Homes
pub mod Issues
pub mod Prefixes
pub mod Shown
