pub mod Arguments
pub mod Callees
pub mod Outcomes
pub mod Receiving
pub mod References
pub mod Scopes
pub mod Targets
