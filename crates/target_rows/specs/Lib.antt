pub mod ChunkRows
pub mod Codes
pub mod Labels
pub mod Over
pub mod Rows
pub mod SplitCodes
