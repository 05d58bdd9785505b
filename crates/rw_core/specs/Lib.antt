pub mod RwMachine
pub mod RwCore
pub mod Edges
pub mod Admission
pub mod EventsLeft
pub mod Standing
pub mod Moves
