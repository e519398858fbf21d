pub mod Looking
pub mod Courses
