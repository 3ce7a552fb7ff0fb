pub mod Dealing
pub mod HeapCalls
pub mod Numbers
