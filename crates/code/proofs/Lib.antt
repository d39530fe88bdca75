-- The laws of words, the loops of the code, and the theorems.
pub mod Words
pub mod Distances
pub mod Changes
pub mod Sums
pub mod Lines
pub mod Loops
pub mod Apart
pub mod Address
pub mod Orders
pub mod Turning
pub mod Adding
pub mod Theorems
