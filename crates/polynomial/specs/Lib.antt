-- Sums of values at places, polynomials over the field, and their roots.
pub mod Sums
pub mod Polynomial
pub mod Roots
