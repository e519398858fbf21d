pub mod Sharing
pub mod Paging
pub mod Rebalancing
pub mod Step
pub mod Replay
