pub mod Drawing
pub mod Going
pub mod Visits
pub mod Others
