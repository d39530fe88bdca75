-- The exclusive or of many numbers, lists of numbers below a bound, and parts of a list.
pub mod Total
pub mod Below
pub mod Parts
