-- The typing rules are sound: an expression that breaks none has a type, and in a checked program no statement breaks one.
pub mod Refused
pub mod Calls
pub mod Expressions
pub mod Programs
