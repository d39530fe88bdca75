-- Parity blocks: the definitions, the promises, what theorems say of even columns, the bench sheet's rows, and what the functions inside promise each other.
pub mod Block
pub mod Even
pub mod Promises
pub mod Bench
pub mod Inside
pub mod Lanes
