-- Elimination, what it says of errors, and what the code does a step at a time.
pub mod Elimination
pub mod Loops
pub mod Stepping
