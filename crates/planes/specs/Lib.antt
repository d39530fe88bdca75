-- What the search for roots promises, and what the functions on elements at all places promise.
pub mod Roots
pub mod Slices
pub mod Crossed
