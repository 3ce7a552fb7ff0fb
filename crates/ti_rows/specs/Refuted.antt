-- Programs, entries and values for which what theorems state is false.
pub mod Programs
pub mod Entries
pub mod Codes
pub mod Laws
pub mod Sets
pub mod Things
