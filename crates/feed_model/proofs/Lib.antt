pub mod FeedLemmas
pub mod FramesLemmas
pub mod RoomLemmas
