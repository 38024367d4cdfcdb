pub mod Crossing
pub mod GoingOn
pub mod Keeping
pub mod Playing
pub mod Rows
