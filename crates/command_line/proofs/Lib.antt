pub mod Entering
pub mod Found
pub mod ParseAnswers
pub mod Refusals
pub mod SeedText
pub mod Taken
