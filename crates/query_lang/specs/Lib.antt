pub mod NameIndex
pub mod ScriptRefused
pub mod Words
