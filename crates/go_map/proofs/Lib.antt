pub mod Callers
pub mod RangeLaw
pub mod Values
