pub mod Keys
pub mod Marks
pub mod Implications
pub mod Solutions
pub mod Chains
pub mod Mirrors
