pub mod Back
pub mod Opening
pub mod Kept
pub mod Summed
pub mod Copied
pub mod Promised
pub mod Noted
