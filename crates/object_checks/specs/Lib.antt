pub mod JournalItems
pub mod JournalOnce
pub mod JournalParts
pub mod JournalRows
