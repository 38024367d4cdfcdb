pub use Rattle.net_engine.specs.Followed
pub mod Asked
pub mod Events
pub mod Kept
pub mod Prefixes
