pub mod FeedReader
pub mod FrameStep
pub mod Intake
