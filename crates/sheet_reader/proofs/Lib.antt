-- Lines and columns read, the tests, the rounds, the ways out, and the theorems.
pub mod Words
pub mod Loops
pub mod Tests
pub mod Running
pub mod Ways
pub mod Theorems
