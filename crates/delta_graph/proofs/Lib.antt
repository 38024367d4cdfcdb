pub mod Chain
pub mod Free
pub mod Joints
pub mod Merging
pub mod Pushing
pub mod Replaced
