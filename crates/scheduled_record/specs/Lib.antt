pub mod ItemsOf
pub mod Ledgers
pub mod Pushed
pub mod Recorded
pub mod RunActs
pub mod ToldItems
pub mod ToldLists
