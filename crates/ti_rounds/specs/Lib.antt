pub mod Courses
pub mod Mirrors
pub mod Seats
