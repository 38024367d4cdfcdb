pub mod CallsLemmas
pub mod FaultsLemmas
pub mod FilesLemmas
pub mod ToldLemmas
