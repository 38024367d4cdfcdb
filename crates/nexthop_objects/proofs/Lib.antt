pub mod BookSteps
pub mod FlatEnds
mod FlatNetwork
mod FlatRoutes
pub mod FlatSame
mod FlatSteps
mod KeyOrder
pub mod ObjectEntries
