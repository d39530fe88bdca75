-- The laws of packed sums, the loops of the code, and the theorems.
pub mod Holding
pub mod Packing
pub mod Loops
pub mod Theorems
