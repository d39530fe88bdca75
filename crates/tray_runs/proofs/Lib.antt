-- Sums and counts worked out afresh, what a tray keeps through a run of operations, that every operation has a result, and the theorems.
pub mod Counting
pub mod Keeping
pub mod Every
pub mod Theorems
