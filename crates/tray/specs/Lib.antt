pub mod Colours
pub mod Buckets
pub mod Moves
