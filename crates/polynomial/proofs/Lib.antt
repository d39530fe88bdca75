-- The laws of sums at places and of polynomials, and the theorems that the decoder rests on.
pub mod Horner
pub mod Places
pub mod Vandermonde
pub mod Combining
pub mod Division
pub mod Locator
pub mod Splitting
pub mod Supported
pub mod Values
pub mod Theorems
