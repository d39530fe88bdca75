-- The turns of the loops, the ways out, how long a report and a file can be, and the theorems.
pub mod First
pub mod Parts
pub mod Fields
pub mod Loops
pub mod Lengths
pub mod Once
pub mod Whole
pub mod Theorems
