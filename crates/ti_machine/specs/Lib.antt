pub mod Mirrors
pub mod ProcView
pub mod Requests
