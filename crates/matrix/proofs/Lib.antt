-- Rows times numbers, what the loops do, what lowering the entries and reducing keep, why the reduced matrix answers the system, and the theorem.
pub mod Dots
pub mod Turns
pub mod Lowering
pub mod Reducing
pub mod Solving
pub mod Theorems
