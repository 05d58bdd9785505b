pub mod Edges
pub mod Looks
pub mod PartLaws
pub mod PartMachine
pub mod PoolLaws
pub mod PoolMachine
pub mod PoolParts
