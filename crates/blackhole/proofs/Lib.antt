pub mod Adding
pub mod Falling
pub mod Order
pub mod Placed
pub mod Row
pub mod Search
pub mod Stretch
pub mod Telling
