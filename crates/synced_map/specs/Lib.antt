pub mod NoteProps
pub mod SyncedCalls
pub mod Telling
