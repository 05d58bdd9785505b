pub mod Between
pub mod Calls
pub mod Lazy
pub mod Stages
