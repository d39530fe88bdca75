-- The loops, what they keep, why an attempt at the right number of errors finds the line, the ways out, and the theorems.
pub mod Loops
pub mod Correcting
pub mod Assumed
pub mod Reading
pub mod Theorems
