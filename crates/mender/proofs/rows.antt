-- The laws of packed rows, and what the loops of `rows` do.
pub mod Windows
pub mod Weaving
pub mod Elimination
pub mod Loops
