-- The laws of bits and elements in planes, what each function does with them, and what callers read.
pub mod Bits
pub mod Loops
pub mod Scanning
pub mod Theorems
