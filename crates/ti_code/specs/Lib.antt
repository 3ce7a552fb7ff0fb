pub mod Programs
pub mod CodeText
pub mod JumpRule
pub mod Forms
pub mod Effects
pub mod Leading
pub mod Machine
pub mod Follows
