pub mod Addresses
pub mod Cuts
pub mod Names
pub mod NamesFound
pub mod QueryTexts
pub mod Questions
pub mod ScriptLines
