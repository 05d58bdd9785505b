pub mod CallMarks
pub mod SpellFound
pub mod SpellLines
