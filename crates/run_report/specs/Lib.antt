pub mod NumberLines
pub mod ReportText
pub mod Shown
pub mod Told
pub mod Writes
