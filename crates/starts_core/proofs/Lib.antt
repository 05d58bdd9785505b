pub mod Places
pub mod Standing
pub mod Stills
pub mod Starting
pub mod Expected
pub mod InTurn
