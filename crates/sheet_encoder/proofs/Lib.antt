-- The turns of the loops, the sheet that is written, the ways out, and the theorems.
pub mod Loops
pub mod Written
pub mod Ways
pub mod Theorems
