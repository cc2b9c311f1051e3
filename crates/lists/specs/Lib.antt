pub mod Refusals
pub mod Dense
pub mod Positions
