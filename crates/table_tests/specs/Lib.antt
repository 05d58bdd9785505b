pub mod MapPairs
pub mod Walking
