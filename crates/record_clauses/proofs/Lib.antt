pub mod CallPlaces
pub mod Claims
pub mod Determined
pub mod Explaining
pub mod FrontsAside
pub mod HaltsAside
pub mod Journals
pub mod OneAccount
pub mod Telling
pub mod ToldLists
pub mod VerdictLemmas
mod PairOrder
mod RangeKeys
