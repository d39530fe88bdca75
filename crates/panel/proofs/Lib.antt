-- The laws of names and of escaping, of writing, the ways out of the two calls, and the theorems of a text and of a ring.
pub mod Names
pub mod Escaping
pub mod Writing
pub mod Ways
pub mod RingWays
pub mod Theorems
pub mod Rings
