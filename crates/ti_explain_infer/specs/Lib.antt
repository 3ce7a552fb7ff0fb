pub mod ChainLinks
pub mod ChainReasons
pub mod FixedParts
pub mod InferenceReasons
pub mod Mirrors
