pub mod Fresh
pub mod PassProps
