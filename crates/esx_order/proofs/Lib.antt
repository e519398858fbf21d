pub mod InOrder
pub mod Those
pub mod OneOrder
pub mod Ranks
pub mod Advised
