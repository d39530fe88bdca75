-- Blocks that outlast a smudge: tests over ranges, the laws of cells, turns, parities and windows, each way out of a function, the bench sheet's rows, and the theorems.
pub mod Ranges
pub mod Cells
pub mod Turns
pub mod Parities
pub mod Windows
pub mod Mending
pub mod Functions
pub mod Reading
pub mod Encoding
pub mod Results
pub mod Spreading
pub mod Bench
pub mod Theorems
