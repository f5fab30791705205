pub mod GatherLemmas
pub mod TableLemmas
pub mod ToldLemmas
pub mod NeedLemmas
pub mod OrderForms
pub mod FoundLemmas
pub mod OutcomeLemmas
