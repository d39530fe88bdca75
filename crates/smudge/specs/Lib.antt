-- Blocks that outlast a smudge: the definitions, the promises, where a cell comes to, the bench sheet's rows, and what the functions inside promise each other.
pub mod Smudge
pub mod Promises
pub mod Spread
pub mod Bench
pub mod Inside
