pub mod Acts
pub mod Alike
pub mod Example
pub mod Keeping
pub mod SameItems
