-- The laws of a scan's clarity, the turns of the loops, the ways out, and the theorems.
pub mod Rounding
pub mod Spread
pub mod Bounds
pub mod Tallying
pub mod Order
pub mod Ratio
pub mod Ways
pub mod Results
pub mod Loops
pub mod Alike
pub mod Theorems
