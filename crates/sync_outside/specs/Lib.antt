pub mod Bytes
pub mod Calls
pub mod Faults
pub mod Memory
pub mod Moments
pub mod Starts
pub mod Told
