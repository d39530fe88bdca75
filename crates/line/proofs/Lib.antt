-- The ways out of line reading, and its theorems.
pub mod Ways
pub mod Theorems
