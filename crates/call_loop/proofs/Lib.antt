pub mod Fresh
pub mod Fronts
pub mod SoFar
pub mod Stands
pub mod Timed
pub mod OpenLocks
