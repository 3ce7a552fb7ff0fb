mod Forms
mod Ints
mod Loops
mod Parameters
mod Repeated
mod Summaries
mod NodeSummaries
mod Walked
mod Taken
mod WordsAlone
pub mod Lemmas
