mod Changes
mod Costs
mod Dropping
mod Grids
mod Listing
mod Lists
mod Makings
mod Names
mod Places
mod Puts
pub mod Lemmas
