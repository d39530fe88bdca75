-- The laws of numbers: cases, tests over a range and over a list, the arms of a match, bits, exclusive or, also of many, maps that keep it, and parts of a list.
pub mod Cases
pub mod Range
pub mod Entries
pub mod Arms
pub mod Bits
pub mod Xor
pub mod Totals
pub mod Linear
pub mod Parts
