mod CallersLemmas
mod Logs
mod Journals
pub mod Histories
pub mod SharedSteps
pub mod SharedReads
pub mod SharedKeys
pub mod SameHistory
pub mod SharedRanges
pub mod SharedCallers
pub mod SharedEntries
pub mod SharedUses
pub mod MapValues
mod Orders
mod EndNames
mod LastEntry
mod Tellers
