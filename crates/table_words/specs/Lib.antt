pub mod Laws
pub mod TrieLaws
pub mod EndLaws
pub mod SweepLaws
pub mod Seats
pub mod Blank
pub mod EndWords
pub mod EndContents
