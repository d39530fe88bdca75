-- Sheets by their entries, the turns of the loops, weights, their reading, the last lines that the others force, and the theorems.
pub mod Entries
pub mod Loops
pub mod Weights
pub mod Reading
pub mod Forced
pub mod Theorems
