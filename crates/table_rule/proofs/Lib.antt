pub mod Standing
pub mod Holders
pub mod CutNodes
pub mod Unused
