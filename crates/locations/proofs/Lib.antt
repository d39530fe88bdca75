-- Halving, the ways in which roots are found or not, the turns of the loops, and the theorem.
pub mod Halving
pub mod Loops
pub mod Finding
pub mod Theorems
