pub mod CallSpelling
pub mod MutexSpelling
pub mod RwSpelling
pub mod Logs
