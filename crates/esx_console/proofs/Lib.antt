mod Keeps
mod Outcomes
pub mod Logs
mod Reaching
mod Lines
mod Refusing
mod Branches
mod Unlogging
mod Twice
