pub mod Passes
pub mod PassViews
pub mod Mirrors
pub mod Turnstiles
