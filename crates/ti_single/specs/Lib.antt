pub mod Effects
pub mod EffectsAt
pub mod Contexts
pub mod Mirrors
