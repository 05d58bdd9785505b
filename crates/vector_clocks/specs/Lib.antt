pub mod Before
pub mod Fits
pub mod Handed
pub mod Joins
pub mod Knowing
pub mod Listing
pub mod Races
