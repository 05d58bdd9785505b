pub mod ByNameLemmas
pub mod MapLemmas
mod RenamingLemmas
pub mod AtomicLemmas
mod Names
pub mod WordLemmas
pub mod WordSteps
