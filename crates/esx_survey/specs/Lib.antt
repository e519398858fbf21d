pub mod Changes
pub mod Surveys
pub mod Counting
