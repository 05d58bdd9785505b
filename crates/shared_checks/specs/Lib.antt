pub mod Calls
pub mod Counts
pub mod Edges
pub mod Fronts
pub mod Parts
pub mod Placing
pub mod Showing
pub mod Marks
