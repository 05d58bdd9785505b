pub mod Numbers
pub mod LineResult
pub mod Adding
pub mod ReportLines
