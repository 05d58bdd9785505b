pub mod Maps
pub mod Ranges
pub mod Tries
pub mod Values
