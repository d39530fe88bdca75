-- The generator and the division by it, the register, what the encoder's entry points promise, runs of steps, checks by power sums, and what its inner functions promise.
pub mod Division
pub mod Register
pub mod Promises
pub mod Runs
pub mod Interpolation
pub mod Inside
