mod Advances
mod Asked
mod Beginnings
mod Begun
mod Few
mod Fieldless
mod Formed
mod Marks
mod Sending
mod Settling
mod Standings
mod Works
pub mod Lemmas
