pub mod Marks
pub mod event
pub mod Every
pub mod Alike
pub mod Tells
pub mod Lists
pub mod Changes
pub mod Stand
