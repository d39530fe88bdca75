-- The turns of the loop over the lines, the ways out, and the theorems.
pub mod Loops
pub mod Ways
pub mod Theorems
