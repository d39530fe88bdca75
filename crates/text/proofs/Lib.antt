-- The laws of decimal numbers and of writing, and the theorems.
pub mod Decimal
pub mod Writing
pub mod Theorems
