mod PrintLemmas
mod CheckLemmas
mod Digits
mod LineLemmas
mod ReadLemmas
pub mod CallWords
mod ChainLemmas
mod WaitLemmas
mod PlainForms
