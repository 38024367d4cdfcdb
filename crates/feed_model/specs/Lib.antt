pub mod Attributes
pub mod Causes
pub mod Feed
pub mod FrameCauses
pub mod Frames
pub mod Message
pub mod Payload
pub mod Steps
