-- Proofs about all runs of a program: which entries a run can have, and how many arrivals, departures and ticks are counted.
pub mod Vars
pub mod Asks
pub mod Ways
pub mod Balance
pub mod Entries
pub mod Arrived
pub mod Given
pub mod Running
pub mod Paying
pub mod Acted
pub mod Waiting
pub mod EveryRun
