-- Escaping, what the calls promise, what the theorems speak of, and what the inner functions promise.
pub mod Escaping
pub mod Promises
pub mod Harmless
pub mod Inside
