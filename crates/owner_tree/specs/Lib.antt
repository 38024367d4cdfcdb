pub mod First
pub mod Way
