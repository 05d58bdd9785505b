pub mod Calls
pub mod Exclusion
pub mod MutexAnswers
pub mod MutexCalls
pub mod Mutexes
pub mod RwCalls
pub mod RwMutexes
