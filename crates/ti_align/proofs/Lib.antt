mod Runs
mod Alignment
mod SliceAlone
mod TextTypes
mod RunTypes
mod Scope
mod Regions
mod Owners
pub mod Lemmas
