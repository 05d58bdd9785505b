pub mod Outcome
pub mod Replies
pub mod Runs
pub mod Starts
