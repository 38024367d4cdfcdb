pub mod Network
pub mod Updates
