-- The laws of parity blocks, of even columns too, the ways in which reading and encoding end, the theorems, and the bench sheet's rows.
pub mod Bits
pub mod Columns
pub mod Apart
pub mod Encoding
pub mod Even
pub mod Reading
pub mod Results
pub mod Lanes
pub mod Loops
pub mod Theorems
pub mod Bench
