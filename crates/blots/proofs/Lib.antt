-- The laws of what is seen outside the blots, what clearing a place does to errors and their sums, what the loops do, the ways out, and the theorems.
pub mod Seen
pub mod Factors
pub mod Loops
pub mod Restoring
pub mod Finding
pub mod Reading
pub mod Eleven
pub mod Theorems
