pub mod AttributesLemmas
pub mod KeptLemmas
pub mod RuledLemmas
pub mod SaidLemmas
pub mod WrittenAttributes
pub mod WrittenRoute
