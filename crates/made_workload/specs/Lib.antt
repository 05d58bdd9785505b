pub mod Generated
pub mod Written
pub mod Summary
pub mod Runs
pub mod TotalsOf
