pub mod Endings
pub mod Expected
pub mod StandLemmas
mod Gains
pub mod RwExpected
