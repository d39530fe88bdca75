-- What finding the roots of a polynomial promises.
pub mod Roots
