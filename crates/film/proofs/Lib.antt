-- The library's theorems.
pub mod Theorems
