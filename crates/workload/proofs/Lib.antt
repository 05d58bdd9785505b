mod Dialects
mod DormantLines
pub mod DraftLemmas
pub mod Follows
pub mod KeyLemmas
mod KeyLaws
mod CallNumbers
pub mod KeyNumbers
mod Keywords
pub mod Numbers
pub mod Passing
mod PutCounts
pub mod References
mod Refuted
pub mod CallForms
mod CallWords
mod Awaits
mod FirstFailing
mod Says
pub mod OneReading
pub mod SameLine
pub mod Started
mod GoCalls
mod XSyncCalls
pub mod NoReason
mod Eights
pub mod LineTexts
pub mod FollowOn
pub mod CanonicalFollows
pub mod CanonicalReads
pub mod EachText
