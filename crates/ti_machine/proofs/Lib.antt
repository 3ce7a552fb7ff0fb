mod Falling
mod Fieldless
mod Going
mod Numbers
mod Paths
mod Reversed
mod Sending
mod Striding
mod Tellings
mod Weights
mod Withins
mod Formed
pub mod Lemmas
