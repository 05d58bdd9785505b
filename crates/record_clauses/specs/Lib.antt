pub mod Account
pub mod Clauses
pub mod Journals
pub mod Lists
pub mod Verdicts
pub mod PairOrder
