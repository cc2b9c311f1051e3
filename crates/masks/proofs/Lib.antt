pub mod Words
pub mod Frees
