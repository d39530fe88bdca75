-- The laws of the division and of the register, and the encoder's theorems.
pub mod Division
pub mod Quotients
pub mod Stepping
pub mod Encoding
pub mod Cleaning
pub mod Interpolation
pub mod Loops
pub mod Running
pub mod Theorems
pub mod Bench
