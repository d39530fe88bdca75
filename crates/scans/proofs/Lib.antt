-- The laws of choosing between two scans, and the theorems.
pub mod Laws
pub mod Theorems
