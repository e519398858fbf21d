pub mod Keeps
pub mod Leads
