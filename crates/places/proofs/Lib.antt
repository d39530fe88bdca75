-- An entry of each table, arithmetic by logarithms, and that each promise allows one answer.
pub mod Entries
pub mod Arithmetic
pub mod Theorems
