pub mod GroupStart
pub mod Calling
pub mod GroupSpelling
pub mod OnceSpelling
pub mod OnceRunning
pub mod CondSpelling
pub mod StartsSpelling
pub mod OnceTold
