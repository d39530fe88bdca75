-- The laws of values at roots, and what the loops of `values` do.
pub mod Lanes
pub mod Roots
pub mod Fractions
pub mod Loops
pub mod Dividing
pub mod Placing
