pub mod Command
pub mod Seed
